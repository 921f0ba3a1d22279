use Rattle.nb_entries.proofs.Common.{◌≡◌, ◌++◌, AreApart, map_of_runs, values_of, kept_values, AreFilled}
use Rattle.nb_entries.proofs.cover.runs.Runs.copied.Given as goal

abbrev pub invariant-loop-run : goal.invariant-loop-run
invariant-loop-run l = record {
  some : AreFilled l.kept;
  apart : AreApart (kept_values l.kept ++ values_of l.run-iterator);
  left : map_of_runs (kept_values l.kept ++ values_of l.run-iterator) ≡ l.self;
}
