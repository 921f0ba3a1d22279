-- What a segment does, and what is handed on.
use Rattle.std.specs.Prelude.{ℕ, ◌≡◌, ◌+◌, ◌*◌, ◌^◌, ◌≤◌, ◌<◌, ◌⊎◌, max, length, take, ◌++◌, List, [], ◌∷◌, Bool, IsTrue, false, None, Some}
use Rattle.nb_tcp.specs.Order.{Segment, StandsAt, placed, sent_at, reach_after, Contradict}
use Rattle.nb_tcp.specs.declared.limits.TheConstants.{ROOM, LAST, RUN_COST}
use Rattle.nb_tcp.specs.Kept.{Kept, Orders}
use Rattle.nb_tcp.specs.Runs.{charge_of, is_any, runs_after}
use Rattle.nb_tcp.specs.declared.taken.Taken.{Taken}
use Rattle.nb_tcp.specs.declared.taken.Refusal.TheVariants.{Full}

-- the segment at a place whose payload begins with these bytes, of which the first n are taken: the others are missing, as where a snap
-- length cut them
abbrev pub segment_of : ℕ → List ℕ → ℕ → ℕ → Segment
segment_of place payload on_wire n = record { place = place; bytes = take n payload; numbers = max on_wire (length payload) }

-- Differs segments known it: a byte that it sends, for a place from known on, isn't the one that the segments have there
abbrev pub Differs : List Segment → ℕ → Segment → Type 0
Differs segments known it = (i : ℕ) × (known ≤ i) × Contradict (placed segments i) (sent_at (reach_after 0 segments) it i)

-- how much is kept at most where so much was, after so many bytes more: each may be a run
abbrev pub grown : ℕ → ℕ → ℕ
grown charge count = charge + count * (RUN_COST + 1)

-- IsFull kept count: there may be no room for so many bytes more, or no place
abbrev pub IsFull : Kept → ℕ → Type 0
IsFull kept count = (LAST < kept.handed + 2 ^ 31 + count) ⊎ (ROOM < grown (charge_of kept.runs) count)

-- Takes old sequence payload on_wire new taken: a segment with this number and this payload, which takes so many numbers on the wire, is
-- taken as far as `taken` says
pub record Takes (old : Kept) (sequence : ℕ) (payload : List ℕ) (on_wire : ℕ) (new : Kept) (taken : Taken) : Type 0 where
  pub stands : StandsAt old.first old.handed sequence taken.place
  pub orders : (from : ℕ) (segments : List Segment) (out : List ℕ) → Orders from old segments out
      → Orders from new (segments ++ segment_of taken.place payload on_wire taken.count ∷ []) out
  pub differs : (from : ℕ) (segments : List Segment) (out : List ℕ) → Orders from old segments out → IsTrue taken.differs
      → Differs segments old.known (segment_of taken.place payload on_wire (length payload))
  pub same : (from : ℕ) (segments : List Segment) (out : List ℕ) → Orders from old segments out → taken.differs ≡ false
      → Differs segments old.known (segment_of taken.place payload on_wire (length payload)) → ⊥
  pub within : taken.count ≤ length payload
  pub whole : taken.refusal ≡ None → taken.count ≡ length payload
  pub full : taken.refusal ≡ Some Full → IsFull old (length payload)
  pub grows : charge_of new.runs ≤ grown (charge_of old.runs) (length payload)

-- what is next in order is appended
pub record HandsOn (old : Kept) (to : List ℕ) (new : Kept) (full : List ℕ) : Type 0 where
  pub handed : List ℕ
  pub appended : full ≡ to ++ handed
  pub orders : (from : ℕ) (segments : List Segment) (out : List ℕ) → Orders from old segments out → Orders from new segments (out ++ handed)

-- bytes wait for others that come before them
abbrev pub waits : Kept → Bool
waits kept = is_any (runs_after kept.handed kept.runs)
