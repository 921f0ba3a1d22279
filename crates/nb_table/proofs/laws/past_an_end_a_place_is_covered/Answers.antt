use Rattle.nb_table.proofs.Common.{past_end_exactly}
use Rattle.nb_table.proofs.laws.past_an_end_a_place_is_covered.Goals as goal

pub returns : goal.returns
returns c = past_end_exactly
