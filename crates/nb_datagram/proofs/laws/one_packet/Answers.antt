use Rattle.nb_datagram.proofs.PacketLemmas.{one_packet}
use Rattle.nb_datagram.proofs.laws.one_packet.Goals as goal

pub returns : goal.returns
returns c = one_packet
