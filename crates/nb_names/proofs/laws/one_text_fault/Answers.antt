use Rattle.nb_names.proofs.FrontLemmas.{one_fault_of, no_fault_of_name}
use Rattle.nb_names.proofs.laws.one_text_fault.Goals as goal

pub returns : goal.returns
returns c = record { one = one_fault_of; none = no_fault_of_name }
