use Rattle.std.proofs.Common.{◌≡◌}
use Rattle.nb_service.specs.Packet.{RecordAt}
use Rattle.nb_service.proofs.RowWalks.{Walk}
use Rattle.nb_service.proofs.decoding.list_records.Given as goal

abbrev pub invariant-loop : goal.invariant-loop
invariant-loop l = Walk (RecordAt l.names) l.at l.count l.counter l.next (λ read. l.records.items ≡ read)
