use Rattle.nb_service.proofs.PacketLemmas.{one_packet}
use Rattle.nb_service.proofs.laws.one_packet.Goals as goal

pub returns : goal.returns
returns c = one_packet
