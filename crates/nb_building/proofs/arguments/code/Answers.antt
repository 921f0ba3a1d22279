use Rattle.nb_building.proofs.RefusalLemmas.{code_read}
use Rattle.nb_building.proofs.arguments.code.Goals as goal

pub returns : goal.returns
returns c = code_read _ _ _ c.code_of.result c.in_ok-digits.ensures
    (rw c.as_slice.ensures at c.code_of.ensures)
