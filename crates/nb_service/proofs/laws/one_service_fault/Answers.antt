use Rattle.nb_service.proofs.PacketLemmas.{no_packet}
use Rattle.nb_service.proofs.laws.one_service_fault.Goals as goal

pub returns-clause-alone : goal.returns-clause-alone
returns-clause-alone c bytes fault packet used fails stands = no_packet bytes packet used fault stands fails
