use Rattle.nb_building.proofs.RefusalLemmas.{word_read}
use Rattle.nb_building.proofs.arguments.word.Goals as goal

pub returns : goal.returns
returns c = word_read _ _ _ c.word_of.result c.in_ok-digits.ensures
    (rw c.as_slice.ensures at c.word_of.ensures)
