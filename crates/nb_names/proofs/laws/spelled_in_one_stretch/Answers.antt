use Rattle.nb_names.proofs.SkippedLemmas.{stretch_within, spelled_in_stretch}
use Rattle.nb_names.proofs.laws.spelled_in_one_stretch.Goals as goal

pub returns-clause-within : goal.returns-clause-within
returns-clause-within c = stretch_within

pub returns-clause-stands : goal.returns-clause-stands
returns-clause-stands c = spelled_in_stretch
