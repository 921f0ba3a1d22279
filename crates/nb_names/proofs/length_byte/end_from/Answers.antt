use Rattle.nb_names.specs.Code.Kept.{stays}
use Rattle.nb_names.proofs.length_byte.end_from.Goals as goal

pub returns-else-at-ends : goal.returns-else-at-ends
returns-else-at-ends c packet ends = stays
