use Rattle.nb_table.proofs.Common.{at_end_conflicts}
use Rattle.nb_table.proofs.laws.a_byte_at_an_end_conflicts.Goals as goal

pub returns : goal.returns
returns c = at_end_conflicts
