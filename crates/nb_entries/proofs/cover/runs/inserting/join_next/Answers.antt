use Rattle.nb_entries.proofs.Common.{arith}
use Rattle.std.proofs.lemmas.Grind.{common_steps}
use Rattle.nb_entries.proofs.KeptRuns.RowsLemmas.{joined}
use Rattle.nb_entries.proofs.cover.runs.inserting.join_next.Goals as goal

pub returns-clause-some : goal.returns-clause-some
returns-clause-some c = grind (arith, common_steps)

pub returns-clause-same : goal.returns-clause-same
returns-clause-same c = grind (arith, common_steps, joined)
