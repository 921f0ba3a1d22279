use Rattle.nb_entries.proofs.Runs.{one_row_of_ranges}
use Rattle.nb_entries.proofs.laws.a_map_has_one_row_of_ranges.Goals as goal

pub returns : goal.returns
returns c = one_row_of_ranges
