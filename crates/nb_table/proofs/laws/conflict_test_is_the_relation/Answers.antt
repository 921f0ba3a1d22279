use Rattle.nb_table.proofs.Common.{conflicts_decides}
use Rattle.nb_table.proofs.laws.conflict_test_is_the_relation.Goals as goal

pub returns : goal.returns
returns c = conflicts_decides
