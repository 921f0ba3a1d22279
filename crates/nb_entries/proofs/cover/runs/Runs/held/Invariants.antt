use Rattle.nb_entries.proofs.Common.{◌≡◌, ◌+◌, held_in, values_of}
use Rattle.std.specs.FinMap as maps
use Rattle.nb_entries.proofs.cover.runs.Runs.held.Given as goal

abbrev pub invariant-loop-run : goal.invariant-loop-run
invariant-loop-run l = l.held + held_in (values_of l.run-iterator) ≡ maps.len l.self
