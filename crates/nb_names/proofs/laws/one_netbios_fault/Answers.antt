use Rattle.nb_names.proofs.FaultLemmas.{one_netbios, no_netbios}
use Rattle.nb_names.proofs.laws.one_netbios_fault.Goals as goal

pub returns-clause-alone : goal.returns-clause-alone
returns-clause-alone c = no_netbios

pub returns-clause-one : goal.returns-clause-one
returns-clause-one c = one_netbios
