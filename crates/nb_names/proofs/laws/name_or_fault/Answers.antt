use Rattle.nb_names.proofs.TotalityLemmas.{read_or_fault, named_or_fault}
use Rattle.nb_names.proofs.laws.name_or_fault.Goals as goal

pub returns-clause-domain : goal.returns-clause-domain
returns-clause-domain c = read_or_fault

pub returns-clause-netbios : goal.returns-clause-netbios
returns-clause-netbios c = named_or_fault
