use Rattle.std.proofs.Common.{refl, arith}
use Rattle.nb_service.specs.Packet.{QuestionAt}
use Rattle.nb_text.specs.ServiceFields.{question_fields}
use Rattle.nb_service.proofs.ItemLemmas.{read_is_ok, read_is}
use Rattle.nb_service.proofs.RowWalks.{walk_begun, walk_item, walk_step, walk_ended}
use Rattle.nb_text.proofs.WalkLemmas.{turn_more, FieldsSeen}
use Rattle.nb_text.proofs.records.tell_each_question.Goals as goal

pub loop-init : goal.loop-init
loop-init g c = (walk_begun (QuestionAt c.args.names.now) c.args.at c.args.count (FieldsSeen g.S.Sink.after question_fields (g.S.Sink.seen c.args.sink.now) (g.S.Sink.seen c.args.sink.now)) refl, λ front f. f)

pub unwrap-seen-requires : goal.unwrap-seen-requires
unwrap-seen-requires g c =
    let next = walk_item (QuestionAt c.args.names.now) _ _ c.loop.counter c.loop.next
    (FieldsSeen g.S.Sink.after question_fields (g.S.Sink.seen c.args.sink.now) (g.S.Sink.seen c.loop.sink)) c.requires c.loop-test.true c.loop.invariant.0 in
    read_is_ok c.see_question.result _ (c.see_question.ensures.only next.0 next.1 next.2)

pub tell_question-requires : goal.tell_question-requires
tell_question-requires g c =
    let next = walk_item (QuestionAt c.args.names.now) _ _ c.loop.counter c.loop.next
    (FieldsSeen g.S.Sink.after question_fields (g.S.Sink.seen c.args.sink.now) (g.S.Sink.seen c.loop.sink)) c.requires c.loop-test.true c.loop.invariant.0 in
    let seen = read_is c.see_question.result _ _ c.unwrap-seen.ensures (c.see_question.ensures.only next.0 next.1 next.2) in
    (next.0, seen.1)

pub loop-preserved : goal.loop-preserved
loop-preserved g c = (
  walk_step (QuestionAt c.args.names.now) _ _ c.loop.counter c.loop.next _ (FieldsSeen g.S.Sink.after question_fields (g.S.Sink.seen c.args.sink.now) (g.S.Sink.seen c.loop.sink))
      (FieldsSeen g.S.Sink.after question_fields (g.S.Sink.seen c.args.sink.now) (g.S.Sink.seen c.tell_question.new.sink)) c.loop-test.true c.loop.invariant.0
      (λ before item after stands held.
      let seen = read_is c.see_question.result _ _ c.unwrap-seen.ensures (c.see_question.ensures.only item after stands) in
      (seen.2, turn_more g.S.Sink.after question_fields before item _ _ _ held (c.in_ok-tell_question.ensures.told item seen.1))),
  λ front f. c.in_ok-tell_question.ensures.front front (c.loop.invariant.1 front f),
)

pub returns-clause-told : goal.returns-clause-told
returns-clause-told g c = walk_ended (QuestionAt c.args.names.now) _ _ c.loop.counter _ (FieldsSeen g.S.Sink.after question_fields (g.S.Sink.seen c.args.sink.now) (g.S.Sink.seen c.loop.sink)) (omega arith) c.loop.invariant.0
