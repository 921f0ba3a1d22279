-- What is read of one direction: its bytes in order, and the packets that they are.
use Rattle.std.specs.Prelude.{ℕ, ◌≡◌, ◌+◌, ◌<◌, Bool, false, IsTrue, List, [], ◌∷◌, ◌++◌, length, Option, Some, None, slice_index}
use Rattle.nb_session.specs.Cutting.{IsCut}
use Rattle.nb_session.specs.Packet.{Packet}
use Rattle.nb_connections.specs.declared.piece.Piece.{Piece}
use Rattle.nb_connections.specs.declared.taken.LeftOut.{LeftOut}
use Rattle.nb_tcp.specs.Order.{Segment, StandsAt, placed}
use Rattle.nb_tcp.specs.Takes.{Differs, segment_of}
use Rattle.nb_tcp.specs.declared.limits.TheConstants.{START}

-- what a segment has of its direction: the sequence number of its first byte, its bytes as far as they are captured, how many numbers it
-- takes on the wire, and whether some of its bytes aren't captured
pub record Part : Type 0 where
  pub number : ℕ
  pub bytes : List ℕ
  pub numbers : ℕ
  pub is_cut : Bool

-- the same of what is lent
abbrev pub part_of : Piece → Part
part_of piece = record { number = piece.number; bytes = piece.bytes.now; numbers = piece.numbers; is_cut = piece.is_cut }

-- what is answered for a segment: the packets that it completes, what is left out with it, whether it differs from what came before, and
-- whether there was room for it
pub record Answer : Type 0 where
  pub packets : List Packet
  pub left_out : Option LeftOut
  pub differs : Bool
  pub fits : Bool

-- a segment of a direction that came, and what was answered for it
pub record Seen : Type 0 where
  pub part : Part
  pub answer : Answer

-- a direction that is read from the byte with the number first on: its segments, at their places; those of their bytes that are in order;
-- the packets that these are, and the rest that they leave
pub record Reading : Type 0 where
  pub first : ℕ
  pub segments : List Segment
  pub out : List ℕ
  pub packets : List Packet
  pub held : List ℕ

-- a direction of which nothing is read yet
abbrev pub started : ℕ → Reading
started first = record { first = first; segments = []; out = []; packets = []; held = [] }

-- IsFront segments out: these are the bytes that the segments send, from the first one on, up to one that is missing
pub record IsFront (segments : List Segment) (out : List ℕ) : Type 0 where
  pub each : (i : ℕ) → i < length out → placed segments (START + i) ≡ Some (slice_index out i)
  pub end : placed segments (START + length out) ≡ None

-- HandsOn old packets new: what is in order now is handed on, and these are the packets that it completes
pub record HandsOn (old : Reading) (packets : List Packet) (new : Reading) : Type 0 where
  pub first : new.first ≡ old.first
  pub segments : new.segments ≡ old.segments
  pub front : IsFront new.segments new.out
  pub answered : new.packets ≡ old.packets ++ packets
  pub cut : IsCut new.out new.packets new.held

-- what a segment sends that has this at a place, whole as far as it is captured
abbrev pub sent : ℕ → Part → Segment
sent place part = segment_of place part.bytes part.numbers (length part.bytes)

-- what is read, and one more segment at this place
abbrev pub with_segment : Reading → ℕ → Part → Reading
with_segment reading place part = record reading { segments = reading.segments ++ sent place part ∷ [] }

-- ComesAt old place part differs: a segment comes at its place; that it differs is told only where one of its bytes came before with
-- another value, and always where that byte wasn't handed on
pub record ComesAt (old : Reading) (place : ℕ) (part : Part) (differs : Bool) : Type 0 where
  pub at : StandsAt old.first (START + length old.out) part.number place
  pub told : IsTrue differs → Differs old.segments 0 (sent place part)
  pub same : differs ≡ false → Differs old.segments (START + length old.out) (sent place part) → ⊥
