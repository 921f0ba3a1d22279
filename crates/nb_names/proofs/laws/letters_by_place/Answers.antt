use Rattle.nb_names.proofs.FirstLevelLemmas.{length-letters, letters_high, letters_low}
use Rattle.nb_names.proofs.laws.letters_by_place.Goals as goal

pub returns-clause-count : goal.returns-clause-count
returns-clause-count c = length-letters

pub returns-clause-high : goal.returns-clause-high
returns-clause-high c = letters_high

pub returns-clause-low : goal.returns-clause-low
returns-clause-low c = letters_low
