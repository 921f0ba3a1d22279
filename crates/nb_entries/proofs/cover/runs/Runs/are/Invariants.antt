use Rattle.nb_entries.proofs.Common.{◌≡◌, ◌↔◌, values_of}
use Rattle.nb_entries.proofs.cover.runs.Runs.are.Given as goal

abbrev pub invariant-loop-run : goal.invariant-loop-run
invariant-loop-run l = (values_of l.own ≡ values_of l.run-iterator) ↔ (l.self ≡ l.other)
