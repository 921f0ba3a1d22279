use Rattle.nb_table.proofs.Wholeness.{all_where_whole, whole_where_all}
use Rattle.nb_table.proofs.laws.parts_are_whole_where_all_are_there.Goals as goal

pub returns : goal.returns
returns c = λ L d alone. (all_where_whole L d alone, whole_where_all L d alone)
