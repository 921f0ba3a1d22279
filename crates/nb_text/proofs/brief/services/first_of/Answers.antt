use Rattle.std.proofs.Common.{List, [], ◌∷◌, ◌++◌, None, arith, subst, sym, ◌∙◌}
use Rattle.nb_service.specs.declared.limits.TheConstants.{HEADER_LENGTH}
use Rattle.nb_service.specs.declared.record.Question.{Question}
use Rattle.nb_service.specs.Packet.{QuestionAt, RecordAt}
use Rattle.nb_service.proofs.ItemLemmas.{read_is_ok, read_is}
use Rattle.nb_text.specs.ServiceSaid.{IsAbout, about_first}
use Rattle.nb_text.proofs.HeardLemmas.{about_more, about_stays, about_record, record_there}
use Rattle.nb_service.proofs.RowWalks.{walk_begun, walk_item, walk_step, walk_ended}
use Rattle.nb_text.proofs.WalkLemmas.{row_from}
use Rattle.nb_text.proofs.brief.services.first_of.Goals as goal

pub loop-init : goal.loop-init
loop-init c = walk_begun (QuestionAt c.args.names.now) HEADER_LENGTH c.args.questions
    (λ (asked : List Question). IsAbout c.args.names.now (about_first asked []) None) tt

pub unwrap-seen-requires : goal.unwrap-seen-requires
unwrap-seen-requires c =
    let next = walk_item (QuestionAt c.args.names.now) HEADER_LENGTH c.args.questions c.loop.counter c.loop.next
    (λ (asked : List Question). IsAbout c.args.names.now (about_first asked []) c.loop.first) (c.requires.0, c.requires.2) c.loop-test.true c.loop.invariant in
    read_is_ok c.see_question.result _ (c.see_question.ensures.only next.0 next.1 next.2)

pub loop-preserved : goal.loop-preserved
loop-preserved c =
    walk_step (QuestionAt c.args.names.now) HEADER_LENGTH c.args.questions c.loop.counter c.loop.next _
    (λ (asked : List Question). IsAbout c.args.names.now (about_first asked []) c.loop.first)
    (λ (asked : List Question). IsAbout c.args.names.now (about_first asked []) c.or-first.result)
    c.loop-test.true c.loop.invariant
    (λ before question after stands held.
    let seen = read_is c.see_question.result _ _ c.unwrap-seen.ensures (c.see_question.ensures.only question after stands) in (
      seen.2,
      subst (IsAbout c.args.names.now (about_first (before ++ question ∷ []) [])) (sym c.or-first.ensures)
          (about_more c.args.names.now before question c.loop.first _ held seen.1),
    ))

pub returns-then-is_some : goal.returns-then-is_some
returns-then-is_some c asked told at next questions records =
    let ended = walk_ended (QuestionAt c.args.names.now) HEADER_LENGTH c.args.questions c.loop.counter c.loop.next
    (λ (asked : List Question). IsAbout c.args.names.now (about_first asked []) c.loop.first) (omega arith) c.loop.invariant asked at questions in
    (about_stays c.args.names.now asked told c.loop.first _ _ ended.1 c.is_some.ensures c.then-is_some.either records.counted, ended.0)

pub unwrap-requires : goal.unwrap-requires
unwrap-requires c =
    let asked = c.requires.2 in
    let told = c.requires.3 in
    let ended = walk_ended (QuestionAt c.args.names.now) HEADER_LENGTH c.args.questions c.loop.counter c.loop.next
    (λ (asked : List Question). IsAbout c.args.names.now (about_first asked []) c.loop.first) (omega arith) c.loop.invariant asked.0 c.requires.0 asked.1 in
    let row = row_from (RecordAt c.args.names.now) c.loop.next c.requires.0 c.args.records c.requires.1 told.0 ended.0 told.1 in
    let first = record_there c.args.names.now c.loop.next told.0 c.requires.1 (omega (arith, row.counted, c.if-records-eq0.false)) row.row in
    read_is_ok c.see_record.result _ (c.see_record.ensures.only first.0 first.1 first.2)

pub returns : goal.returns
returns c asked told at next questions records =
    let ended = walk_ended (QuestionAt c.args.names.now) HEADER_LENGTH c.args.questions c.loop.counter c.loop.next
    (λ (asked : List Question). IsAbout c.args.names.now (about_first asked []) c.loop.first) (omega arith) c.loop.invariant asked at questions in
    let row = row_from (RecordAt c.args.names.now) c.loop.next at c.args.records next told ended.0 records in (
      about_record c.args.names.now c.loop.next asked told next c.loop.first ended.1 (sym c.is_some.ensures ∙ c.if-is_some.false)
          (omega (arith, row.counted, c.if-records-eq0.false)) row.row
          (λ entry after stands. (read_is c.see_record.result _ _ c.unwrap.ensures (c.see_record.ensures.only entry after stands)).1),
      ended.0,
    )
