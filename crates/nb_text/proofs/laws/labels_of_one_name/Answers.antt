use Rattle.nb_text.proofs.LabelLemmas.{name_found, found_name, no_name_found}
use Rattle.nb_text.proofs.laws.labels_of_one_name.Goals as goal

pub returns-clause-spelled : goal.returns-clause-spelled
returns-clause-spelled c = name_found

pub returns-clause-only : goal.returns-clause-only
returns-clause-only c = found_name

pub returns-clause-none : goal.returns-clause-none
returns-clause-none c = no_name_found
