-- Runs: bytes that stand one after another, with the place of the first. Each byte is in one run.
use Rattle.std.specs.Prelude.{ℕ, ◌≡◌, ◌+◌, ◌≤◌, ◌<◌, List, [], ◌∷◌, ◌++◌, length, Option, None, Some, IsSome, slice_index, Bool, true, false}
use Rattle.std.specs.BTreeMap.Range.{entries_between}
use Rattle.std.specs.Ordering.{nat_cmp}
use Rattle.std.specs.declared.ops.Bound.TheVariants.{Included, Unbounded}
use Rattle.nb_tcp.specs.Order.{among, or_else, Contradict}
use Rattle.nb_tcp.specs.declared.limits.TheConstants.{RUN_COST, LAST}

-- the byte that runs have at a place
abbrev pub in_runs : List (ℕ × List ℕ) → ℕ → Option ℕ
in_runs [] i = None
in_runs (run ∷ runs) i = or_else (among (length run.1) run.0 run.1 i) (in_runs runs i)

-- from a place on there are these runs: none is empty, and each begins where the one before ends or later
abbrev pub AreRuns : ℕ → List (ℕ × List ℕ) → Type 0
AreRuns low [] = low ≤ LAST
AreRuns low (run ∷ runs) = (low ≤ run.0) × (0 < length run.1) × AreRuns (run.0 + length run.1) runs

-- what runs count, in bytes
abbrev pub charge_of : List (ℕ × List ℕ) → ℕ
charge_of [] = 0
charge_of (run ∷ runs) = length run.1 + RUN_COST + charge_of runs

-- the runs that begin after a place
abbrev pub runs_after : ℕ → List (ℕ × List ℕ) → List (ℕ × List ℕ)
runs_after at runs = entries_between nat_cmp (Included (at + 1)) Unbounded runs

-- there is one of them
abbrev pub is_any : List (ℕ × List ℕ) → Bool
is_any [] = false
is_any (run ∷ runs) = true

-- these bytes, one or more, stand in the runs from a place on
pub record AreKnown (runs : List (ℕ × List ℕ)) (at : ℕ) (bytes : List ℕ) : Type 0 where
  pub some : 0 < length bytes
  pub each : (j : ℕ) → j < length bytes → in_runs runs (at + j) ≡ Some (slice_index bytes j)
  pub last : at + length bytes ≤ LAST

-- where no byte stands at a place, the runs have none before next
pub record IsNextAfter (runs : List (ℕ × List ℕ)) (at next : ℕ) : Type 0 where
  pub after : at < next
  pub there : IsSome (in_runs runs next)
  pub none : in_runs runs at ≡ None → (i : ℕ) → at ≤ i → i < next → in_runs runs i ≡ None
  pub last : next ≤ LAST

-- the first n of these bytes are put where the runs have none
abbrev pub Puts : List (ℕ × List ℕ) → ℕ → List ℕ → ℕ → List (ℕ × List ℕ) → Type 0
Puts runs place bytes n new = (i : ℕ) → in_runs new i ≡ or_else (in_runs runs i) (among n place bytes i)

-- one of the first n of these bytes contradicts that in the runs
abbrev pub Contradicts : List (ℕ × List ℕ) → ℕ → List ℕ → ℕ → Type 0
Contradicts runs place bytes n = (i : ℕ) × Contradict (in_runs runs i) (among n place bytes i)

-- Moves runs at to next full: the bytes of the runs from a place on, up to the next, were appended
pub record Moves (runs : List (ℕ × List ℕ)) (at : ℕ) (to : List ℕ) (next : ℕ) (full : List ℕ) : Type 0 where
  pub moved : List ℕ
  pub place : next ≡ at + length moved
  pub appended : full ≡ to ++ moved
  pub each : (j : ℕ) → j < length moved → in_runs runs (at + j) ≡ Some (slice_index moved j)
