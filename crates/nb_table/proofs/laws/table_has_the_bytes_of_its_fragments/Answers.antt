use Rattle.nb_table.proofs.Common.{byte_exactly}
use Rattle.nb_table.proofs.laws.table_has_the_bytes_of_its_fragments.Goals as goal

pub returns : goal.returns
returns c = byte_exactly
