use Rattle.nb_table.proofs.Common.{end_exactly}
use Rattle.nb_table.proofs.laws.table_has_the_ends_of_its_fragments.Goals as goal

pub returns : goal.returns
returns c = end_exactly
