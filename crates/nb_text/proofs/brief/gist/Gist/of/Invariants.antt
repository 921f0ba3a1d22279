use Rattle.std.proofs.Common.{◌≡◌}
use Rattle.nb_service.specs.Packet.{RecordAt}
use Rattle.nb_text.specs.ServiceSaid.{gist_of}
use Rattle.nb_service.proofs.RowWalks.{Walk}
use Rattle.nb_text.proofs.brief.gist.Gist.of.Given as goal

abbrev pub invariant-loop : goal.invariant-loop
invariant-loop l = Walk (RecordAt l.names) l.at l.count l.counter l.next (λ records. l.told ≡ gist_of l.status records)
