-- One direction of a TCP connection, defined over the list of its segments (RFC 9293 section 3.4).
-- A place counts the bytes of the direction. That of its first byte is a multiple of 2^32, so that what was sent before that byte has a
-- place too.
-- Our choice: where several bytes are sent for one place, the one that came first counts.
use Rattle.std.specs.Prelude.{ℕ, ◌≡◌, ◌+◌, ◌-◌, ◌%◌, ◌^◌, ◌≤◌, ◌<◌, List, [], ◌∷◌, length, Option, None, Some, Bool, cond, ◌&&◌, ◌==◌, nat_le, ltb, max, slice_index}

-- a segment: the place of its first byte, the bytes of its payload that are captured, and how many sequence numbers it takes (SEG.LEN)
pub record Segment : Type 0 where
  pub place : ℕ
  pub bytes : List ℕ
  pub numbers : ℕ

-- StandsAt first next sequence place: where the first byte of a direction has the number first, and next is the place that is awaited, the
-- byte with this sequence number stands at this place
pub record StandsAt (first next sequence place : ℕ) : Type 0 where
  pub number : (first + place) % (2 ^ 32) ≡ sequence
  pub low : next ≤ place + 2 ^ 31
  pub high : place < next + 2 ^ 31

-- the byte at place i, of the first n of those that stand from a place on
abbrev pub among : ℕ → ℕ → List ℕ → ℕ → Option ℕ
among n place bytes i = cond (nat_le place i && ltb i (place + n)) (Some (slice_index bytes (i - place))) None

-- the first of two bytes, if there is one, else the second
abbrev pub or_else : Option ℕ → Option ℕ → Option ℕ
or_else None y = y
or_else (Some x) y = Some x

-- whether a segment after others that reach to a place is a keep-alive (section 3.8.4): it takes one number at most, and ends there
abbrev pub is_keep_alive : ℕ → Segment → Bool
is_keep_alive reach s = nat_le s.numbers 1 && (s.place + s.numbers == reach)

-- the byte that a segment sends for a place; a keep-alive sends none
abbrev pub sent_at : ℕ → Segment → ℕ → Option ℕ
sent_at reach s i = cond (is_keep_alive reach s) None (among (length s.bytes) s.place s.bytes i)

-- how far segments reach, after others: to the greatest place that follows one of their numbers
abbrev pub reach_after : ℕ → List Segment → ℕ
reach_after reach [] = reach
reach_after reach (s ∷ segments) = reach_after (max reach (s.place + s.numbers)) segments

-- the byte at a place, of segments after others that reach to a place
abbrev pub placed_after : ℕ → List Segment → ℕ → Option ℕ
placed_after reach [] i = None
placed_after reach (s ∷ segments) i = or_else (sent_at reach s i) (placed_after (max reach (s.place + s.numbers)) segments i)

-- the byte at a place: that of the first segment that sends one for it
abbrev pub placed : List Segment → ℕ → Option ℕ
placed segments i = placed_after 0 segments i

-- Contradict known came: both are bytes, and they differ
abbrev pub Contradict : Option ℕ → Option ℕ → Type 0
Contradict known came = (x : ℕ) × (y : ℕ) × (known ≡ Some x) × (came ≡ Some y) × (x ≡ y → ⊥)

-- a byte has one place
abbrev pub OnePlace : Type 0
OnePlace = (first next sequence a b : ℕ) → StandsAt first next sequence a → StandsAt first next sequence b → a ≡ b
