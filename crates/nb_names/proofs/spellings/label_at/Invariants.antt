use Rattle.std.proofs.Common.{◌≡◌, ◌≤◌, List, ℕ, length, drop}
use Rattle.std.specs.List.{AllByRecursion}
use Rattle.nb_names.specs.DomainName.{spelling, IsLabel}
use Rattle.nb_names.proofs.spellings.label_at.Given as goal

abbrev pub invariant-loop : goal.invariant-loop
invariant-loop l = (ls : List (List ℕ)) → AllByRecursion IsLabel ls → l.spelled ≡ spelling ls → (l.counter ≤ length ls) × (l.rest ≡ spelling (drop l.counter ls))
