use Rattle.nb_names.proofs.LabelsLemmas.{one_reading, IsDomain-read}
use Rattle.nb_names.proofs.laws.one_reading.Goals as goal

pub returns-clause-domain : goal.returns-clause-domain
returns-clause-domain c packet pointers at = IsDomain-read packet pointers at at

pub returns-clause-one : goal.returns-clause-one
returns-clause-one c packet pointers at labels others next other = one_reading packet pointers at at labels others next other
