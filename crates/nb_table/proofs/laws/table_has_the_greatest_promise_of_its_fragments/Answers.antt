use Rattle.nb_table.proofs.Common.{promise_exactly}
use Rattle.nb_table.proofs.laws.table_has_the_greatest_promise_of_its_fragments.Goals as goal

pub returns : goal.returns
returns c = promise_exactly
