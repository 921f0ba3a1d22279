use Rattle.nb_names.proofs.PartsLemmas.{one_name_of}
use Rattle.nb_names.proofs.laws.one_name.Goals as goal

pub returns : goal.returns
returns c = one_name_of
