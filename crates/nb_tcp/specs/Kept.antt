-- What a direction keeps, and that it is what its segments say.
use Rattle.std.specs.Prelude.{ℕ, ◌≡◌, ◌+◌, ◌≤◌, ◌<◌, List, length, Some, slice_index}
use Rattle.nb_tcp.specs.Order.{Segment, placed, reach_after}
use Rattle.nb_tcp.specs.Runs.{in_runs, charge_of}
use Rattle.nb_tcp.specs.declared.limits.TheConstants.{START, LAST, ROOM}

-- the number of the first byte; the place up to which all was handed on or passed over; that from which on what came is known; how far
-- segments reach; and the runs that came
pub record Kept : Type 0 where
  pub first : ℕ
  pub handed : ℕ
  pub known : ℕ
  pub reach : ℕ
  pub runs : List (ℕ × List ℕ)

-- the places are in their order, and what is kept is bounded
pub record IsKept (kept : Kept) : Type 0 where
  pub start : START ≤ kept.handed
  pub last : kept.handed ≤ LAST
  pub known : kept.known ≤ kept.handed
  pub room : charge_of kept.runs ≤ ROOM

-- Orders from kept segments out: after these segments, the bytes out were handed on from a place on. Each stands at its place among the
-- segments, one after another; and from a place on the runs have the bytes of the segments, and no others
pub record Orders (from : ℕ) (kept : Kept) (segments : List Segment) (out : List ℕ) : Type 0 where
  pub reached : kept.handed ≡ from + length out
  pub handed : (j : ℕ) → j < length out → placed segments (from + j) ≡ Some (slice_index out j)
  pub each : (i : ℕ) → kept.known ≤ i → in_runs kept.runs i ≡ placed segments i
  pub reach : kept.reach ≡ reach_after 0 segments
