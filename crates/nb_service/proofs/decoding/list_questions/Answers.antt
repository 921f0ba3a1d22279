use Rattle.std.proofs.Common.{◌≡◌, ◌∙◌, List, arith}
use Rattle.nb_service.specs.declared.record.Question.{Question}
use Rattle.nb_service.specs.Packet.{QuestionAt}
use Rattle.nb_service.proofs.ItemLemmas.{read_is_ok, read_is}
use Rattle.nb_service.proofs.RowWalks.{walk_begun, walk_item, walk_step, walk_ended}
use Rattle.nb_service.proofs.decoding.list_questions.Goals as goal

pub loop-init : goal.loop-init
loop-init c = walk_begun (QuestionAt c.args.names.now) c.args.at c.args.count (λ (read : List Question). c.new-questions.result.items ≡ read) c.new-questions.ensures.items

pub unwrap-seen-requires : goal.unwrap-seen-requires
unwrap-seen-requires c =
    let next = walk_item (QuestionAt c.args.names.now) _ _ c.loop.counter c.loop.next (λ (read : List Question). c.loop.questions.items ≡ read) c.requires c.loop-test.true c.loop.invariant in
    read_is_ok c.see_question.result _ (c.see_question.ensures.only next.0 next.1 next.2)

pub loop-preserved : goal.loop-preserved
loop-preserved c =
    walk_step (QuestionAt c.args.names.now) _ _ c.loop.counter c.loop.next _ (λ (read : List Question). c.loop.questions.items ≡ read)
    (λ (read : List Question). c.push.new.self.items ≡ read) c.loop-test.true c.loop.invariant
    (λ before item after stands held.
    let read = read_is c.see_question.result _ _ c.unwrap-seen.ensures (c.see_question.ensures.only item after stands) in
    (read.2, cc (c.in_ok-push.ensures.items, held, c.question.ensures item read.1)))

pub returns : goal.returns
returns c items next row =
    let ended = walk_ended (QuestionAt c.args.names.now) _ _ c.loop.counter _ (λ (read : List Question). c.loop.questions.items ≡ read) (omega arith) c.loop.invariant items next row in
    (c.from_vec.ensures ∙ ended.1, ended.0)
