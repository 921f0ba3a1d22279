use Rattle.nb_names.proofs.FaultLemmas.{one_fault, no_name}
use Rattle.nb_names.proofs.laws.one_fault.Goals as goal

pub returns-clause-alone : goal.returns-clause-alone
returns-clause-alone c packet pointers at fault labels next h = no_name packet pointers at fault h labels next

pub returns-clause-one : goal.returns-clause-one
returns-clause-one c = one_fault
