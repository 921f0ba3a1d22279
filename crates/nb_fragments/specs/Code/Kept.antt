-- What the code keeps of fragments.
use Rattle.std.specs.Prelude.{◌≡◌, ◌≤◌, ◌<◌, ◌⊎◌, ◌+◌, ◌-◌, ◌^◌, ◌&&◌, sum_by, ℕ, Bool, false, is_some, List, [], ◌∷◌, length, map, Option, Some, None, min, not, cond}
use Rattle.std.specs.BTreeMap.{BTreeMap, get, btree_map_len, values}
use Rattle.nb_entries.specs.Cover.{CoverValue}
use Rattle.nb_entries.specs.CoverChange.{cover_of_pieces, data_of, no_facts, with_piece}
use Rattle.nb_entries.specs.Piece.{PieceParts}
use Rattle.nb_entries.specs.declared.slot.Slot.TheVariants.{Held, Spoilt}
use Rattle.nb_fragments.specs.declared.taken.Taken.{Taken}
use Rattle.nb_fragments.specs.declared.taken.Taken.TheVariants.{LeftOut}
use Rattle.nb_fragments.specs.declared.taken.Refusal.TheVariants.{TooMany}
use Rattle.nb_frames.specs.declared.carried.IpFragment.{IpFragment}
use Rattle.nb_fragments.specs.Taking.{Answers, IsTaken, came_now, live_after}
use Rattle.nb_fragments.specs.declared.key.Key.{Key}
use Rattle.nb_fragments.specs.declared.limits.TheConstants.{KEYS, ROOM}
use Rattle.nb_fragments.specs.declared.waiting.Waiting.{Waiting}
use Rattle.nb_fragments.specs.declared.fragments.Fragments.{Fragments}
use Rattle.nb_fragments.specs.Keys.{key_cmp, key_of, same_key}
use Rattle.nb_fragments.specs.Live.{Came, clock_after, is_over, live_at, of_key}

-- when the first fragment of a packet came, and what all say
pub record Known : Type 0 where
  pub start : ℕ
  pub cover : CoverValue

-- that of what is kept of a packet
abbrev pub known_of : Option Waiting → Option Known
known_of None = None
known_of (Some w) = Some (record { start = w.start; cover = w.cover })

-- what is known by these fragments of one packet
abbrev pub known_by : List Came → Option Known
known_by [] = None
known_by (came ∷ later) = Some (record { start = came.time; cover = cover_of_pieces (map (λ c. c.piece) (came ∷ later)) })

-- what is kept of a packet
abbrev pub kept_at : Fragments → Key → Option Waiting
kept_at f key = get key_cmp f.waiting key

-- what the clock shows
abbrev pub clock_of : Fragments → ℕ
clock_of f = f.clock

-- how many bytes count of what is kept
abbrev pub charge_of : BTreeMap Key Waiting → ℕ
charge_of map = sum_by (λ w. w.bytes) (values map)

-- Waits f live: these are the fragments that are live, and f keeps what they say
pub record Waits (f : Fragments) (live : List Came) : Type 0 where
  pub known : (key : Key) → known_of (kept_at f key) ≡ known_by (of_key key live)
  pub early : (key : Key) (w : Waiting) → kept_at f key ≡ Some w → f.earliest ≤ w.start
  pub few : btree_map_len f.waiting ≤ KEYS
  pub charge : charge_of f.waiting ≤ f.used
  pub room : f.used ≤ ROOM

-- IsFull f key count: there is no room for so many bytes of this packet: none of it is kept, and as many packets are as may be; or
-- more bytes would count than may
abbrev pub IsFull : Fragments → Key → ℕ → Type 0
IsFull f key count = ((kept_at f key ≡ None) × (KEYS ≤ btree_map_len f.waiting)) ⊎ (ROOM < f.used + count)

-- a piece of this packet that comes now
abbrev pub came_at : Fragments → Key → PieceParts → Came
came_at f key piece = record { time = f.clock; key = key; piece = piece }

-- what is known after one more fragment, which comes then
abbrev pub known_with : ℕ → PieceParts → Option Known → Known
known_with now piece None = record { start = now; cover = with_piece (Held no_facts) piece }
known_with now piece (Some k) = record { start = k.start; cover = with_piece k.cover piece }

-- the cover that is known, if there is one
abbrev pub known_cover : Option Known → CoverValue
known_cover None = Held no_facts
known_cover (Some k) = k.cover

-- IsPut old new now key piece: of this packet one piece more is kept, which comes now; of others what was
pub record IsPut (old new : BTreeMap Key Waiting) (now : ℕ) (key : Key) (piece : PieceParts) : Type 0 where
  pub value : Waiting
  pub known : known_of (Some value) ≡ Some (known_with now piece (known_of (get key_cmp old key)))
  pub put : (other : Key) → get key_cmp new other ≡ cond (same_key key other) (Some value) (get key_cmp old other)
  pub few : btree_map_len old ≤ KEYS → btree_map_len new ≤ KEYS

-- Joins old new now key piece taken: the piece of a packet is joined to what is kept, and makes this of it; or it isn't kept
abbrev pub Joins : BTreeMap Key Waiting → BTreeMap Key Waiting → ℕ → Key → PieceParts → Taken → Type 0
Joins old new now key piece (LeftOut refusal) = (refusal ≡ TooMany) × (new ≡ old)
Joins old new now key piece taken =
    IsPut old new now key piece
    × IsTaken (known_cover (known_of (get key_cmp old key))) (known_with now piece (known_of (get key_cmp old key))).cover taken

-- what is kept where the clock shows this
abbrev pub still_kept : ℕ → Option Waiting → Option Waiting
still_kept now None = None
still_kept now (Some w) = cond (not (is_over now (Some w.start))) (Some w) None

-- the earliest of these starts and this one
abbrev pub earliest_in : ℕ → List Waiting → ℕ
earliest_in least [] = least
earliest_in least (w ∷ ws) = earliest_in (min least w.start) ws

-- how many bytes count of these and before them, as far as a number goes
abbrev pub used_in : ℕ → List Waiting → ℕ
used_in used [] = used
used_in used (w ∷ ws) = used_in (min (used + w.bytes) (2 ^ 64 - 1)) ws

-- some of the bytes of a packet didn't come, of which this is known
abbrev pub lacks : CoverValue → Bool
lacks Spoilt = false
lacks (Held facts) = not (is_some (data_of (Held facts)))

-- a packet is lost that lacks some: its timer has run out, or it is asked for at the end
abbrev pub is_lost : Option ℕ → Waiting → Bool
is_lost None w = lacks w.cover
is_lost (Some now) w = is_over now (Some w.start) && lacks w.cover

-- so many, and those of these that are lost, as far as a number goes
abbrev pub lost_in : Option ℕ → ℕ → List Waiting → ℕ
lost_in now count [] = count
lost_in now count (w ∷ ws) = lost_in now (min (count + cond (is_lost now w) 1 0) (2 ^ 64 - 1)) ws

-- how many packets were dropped that lacked some, where the clock shows this: none is before the earliest is over
abbrev pub lost_at : Fragments → ℕ → ℕ
lost_at f now = cond (is_over now (Some f.earliest)) (lost_in (Some now) f.lost (values f.waiting)) f.lost

-- of how many packets some fragments came, and others didn't: those that were dropped so, and those that are kept
abbrev pub unfinished_of : Fragments → ℕ
unfinished_of f = lost_in None f.lost (values f.waiting)

-- Joined old f time new taken: a fragment of a frame of this time is taken, and this is made of it
pub record Joined (old : Fragments) (f : IpFragment) (time : Option ℕ) (new : Fragments) (taken : Taken) : Type 0 where
  pub clock : clock_of new ≡ clock_after (clock_of old) time
  pub live : (live : List Came) → Waits old live
      → Waits new (live_after taken (came_now (clock_of new) f) (live_at (clock_of new) live))
  pub answer : (live : List Came) → Waits old live → Answers f (came_now (clock_of new) f) (live_at (clock_of new) live) taken
  pub full : taken ≡ LeftOut TooMany → IsFull new (key_of f) (length f.payload.bytes)
  pub lost : new.lost ≡ lost_at old (clock_of new)
