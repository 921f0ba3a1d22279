use Rattle.nb_names.proofs.FaultLemmas.{labels_more, fault_at_more}
use Rattle.nb_names.proofs.laws.more_behind.Goals as goal

pub returns-clause-name : goal.returns-clause-name
returns-clause-name c packet more pointers at = labels_more packet more pointers at at

pub returns-clause-fault : goal.returns-clause-fault
returns-clause-fault c = fault_at_more
