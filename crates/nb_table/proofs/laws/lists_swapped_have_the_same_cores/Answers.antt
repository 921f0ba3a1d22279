use Rattle.nb_table.specs.Shared.ContentsLemmas.{turned_cores}
use Rattle.nb_table.proofs.laws.lists_swapped_have_the_same_cores.Goals as goal

pub returns : goal.returns
returns c = turned_cores
