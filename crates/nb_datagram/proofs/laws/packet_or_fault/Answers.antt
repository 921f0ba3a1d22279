use Rattle.nb_datagram.proofs.TotalLemmas.{packet_or_fault}
use Rattle.nb_datagram.proofs.laws.packet_or_fault.Goals as goal

pub returns : goal.returns
returns c = packet_or_fault
