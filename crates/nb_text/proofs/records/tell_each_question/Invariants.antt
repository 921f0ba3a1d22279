use Rattle.nb_service.specs.Packet.{QuestionAt}
use Rattle.nb_telling.specs.Telling.{Grows}
use Rattle.nb_text.specs.ServiceFields.{question_fields}
use Rattle.nb_service.proofs.RowWalks.{Walk}
use Rattle.nb_text.proofs.WalkLemmas.{FieldsSeen}
use Rattle.nb_text.proofs.records.tell_each_question.Given as goal

abbrev pub invariant-loop : goal.invariant-loop
invariant-loop g l =
    Walk (QuestionAt l.names) l.at l.count l.counter l.next (FieldsSeen g.S.Sink.after question_fields (g.S.Sink.seen l.fn.sink) (g.S.Sink.seen l.sink))
    × Grows g.S.Sink.is_front (g.S.Sink.seen l.fn.sink) (g.S.Sink.seen l.sink)
