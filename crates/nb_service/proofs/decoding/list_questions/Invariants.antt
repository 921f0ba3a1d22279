use Rattle.std.proofs.Common.{◌≡◌}
use Rattle.nb_service.specs.Packet.{QuestionAt}
use Rattle.nb_service.proofs.RowWalks.{Walk}
use Rattle.nb_service.proofs.decoding.list_questions.Given as goal

abbrev pub invariant-loop : goal.invariant-loop
invariant-loop l = Walk (QuestionAt l.names) l.at l.count l.counter l.next (λ read. l.questions.items ≡ read)
