use Rattle.nb_datagram.proofs.FaultLemmas.{no_packet, one_packet_fault}
use Rattle.nb_datagram.proofs.laws.one_datagram_fault.Goals as goal

pub returns-clause-alone : goal.returns-clause-alone
returns-clause-alone c bytes fault packet used fails stands = no_packet bytes packet used fault stands fails

pub returns-clause-one : goal.returns-clause-one
returns-clause-one c = one_packet_fault
