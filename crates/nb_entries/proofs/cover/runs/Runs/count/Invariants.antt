use Rattle.nb_entries.proofs.Common.{◌≡◌, ◌+◌, ◌≤◌, ℕ, List, [], ◌∷◌, length, RunValue, AreApart, runs_of_map, values_of}
use Rattle.nb_entries.proofs.cover.runs.Runs.count.Given as goal

-- a count is at most where the next run starts
abbrev pub FewTo : ℕ → List RunValue → Type 0
FewTo n [] = Unit {0}
FewTo n (r ∷ rs) = n ≤ r.start

abbrev pub invariant-loop-run : goal.invariant-loop-run
invariant-loop-run l = record {
  apart : AreApart (values_of l.run-iterator);
  few : FewTo l.count (values_of l.run-iterator);
  left : l.count + length (values_of l.run-iterator) ≡ length (runs_of_map l.self);
}
