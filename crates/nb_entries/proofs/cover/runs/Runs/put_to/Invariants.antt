use Rattle.nb_entries.proofs.Common.{map, concat, runs_of_map, values_of}
use Rattle.nb_entries.specs.Sinks.{ToPut}
use Rattle.nb_entries.specs.Saved.{run_bytes, runs_bytes}
use Rattle.nb_entries.proofs.cover.runs.Runs.put_to.Given as goal

abbrev pub invariant-loop-run : goal.invariant-loop-run
invariant-loop-run g l =
    ToPut g.S.ByteSink.takes g.S.ByteSink.breaks l.fn.sink (runs_bytes (runs_of_map l.self))
    l.sink (concat (map run_bytes (values_of l.run-iterator)))
