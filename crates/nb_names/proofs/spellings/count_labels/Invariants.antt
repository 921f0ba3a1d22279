use Rattle.std.proofs.Common.{◌≡◌, ◌≤◌, ◌+◌, List, ℕ, length, drop}
use Rattle.std.specs.List.{AllByRecursion}
use Rattle.nb_names.specs.DomainName.{spelling, IsLabel}
use Rattle.nb_names.proofs.spellings.count_labels.Given as goal

abbrev pub invariant-loop-behind : goal.invariant-loop-behind
invariant-loop-behind l = record {
  short : l.count + length l.rest ≤ length l.spelled;
  left : (labels : List (List ℕ)) → AllByRecursion IsLabel labels → l.spelled ≡ spelling labels → (l.count ≤ length labels) × (l.rest ≡ spelling (drop l.count labels));
}

abbrev pub decreases-loop-behind : goal.decreases-loop-behind
decreases-loop-behind l = length l.rest
