use Rattle.nb_names.proofs.FirstLevelLemmas.{LettersRead}
use Rattle.nb_names.proofs.spellings.fill_from_letters.Given as goal

abbrev pub invariant-pairs : goal.invariant-pairs
invariant-pairs l = LettersRead l.letters l.bytes l.rest l.good l.place
