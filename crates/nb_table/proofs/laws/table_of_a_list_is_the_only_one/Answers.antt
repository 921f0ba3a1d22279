use Rattle.nb_table.proofs.Common.{only_table}
use Rattle.nb_table.proofs.laws.table_of_a_list_is_the_only_one.Goals as goal

pub returns : goal.returns
returns c = only_table
