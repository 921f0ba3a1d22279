use Rattle.nb_entries.proofs.Common.{arith}
use Rattle.nb_entries.proofs.Runs.{few_runs_of}
use Rattle.nb_entries.proofs.cover.CoverFacts.run_count.Goals as goal

pub overflow_cast-result : goal.overflow_cast-result
overflow_cast-result c =
    let below = rw (← c.self.view_is) at c.requires in
    let few = few_runs_of (record { bytes = c.self.inside.bytes; marks = c.self.inside.marks }) below in
    omega (arith, few)
