use Rattle.nb_names.proofs.LabelsLemmas.{spelling_read}
use Rattle.nb_names.proofs.laws.spelling_is_read.Goals as goal

pub returns : goal.returns
returns c = spelling_read
