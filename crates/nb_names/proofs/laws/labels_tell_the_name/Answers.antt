use Rattle.nb_names.proofs.NameLemmas.{name_domain, one_name}
use Rattle.nb_names.proofs.laws.labels_tell_the_name.Goals as goal

pub returns-clause-domain : goal.returns-clause-domain
returns-clause-domain c = name_domain

pub returns-clause-one : goal.returns-clause-one
returns-clause-one c = one_name
