-- The course of one direction, segment by segment.
use Rattle.std.specs.Prelude.{ℕ, ◌≡◌, ◌==◌, ◌+◌, ◌<◌, ◌≤◌, ◌%◌, ◌^◌, ◌⊎◌, false, IsTrue, List, [], ◌∷◌, ◌++◌, length, cond, Option, Some, None}
use Rattle.nb_session.specs.declared.fault.SessionFault.{SessionFault}
use Rattle.nb_session.specs.declared.limits.TheConstants.{HEADER_LENGTH}
use Rattle.nb_session.specs.declared.parsing.Parsed.TheVariants.{More, Refused}
use Rattle.nb_session.specs.Parsing.{Lacks, Parses}
use Rattle.nb_tcp.specs.declared.limits.TheConstants.{LAST, START}
use Rattle.nb_connections.specs.declared.taken.LeftOut.{LeftOut}
use Rattle.nb_connections.specs.declared.taken.Reason.{Reason}
use Rattle.nb_connections.specs.declared.taken.Reason.TheVariants.{BadHeader, Gap}
use Rattle.nb_connections.specs.Reading.{ComesAt, HandsOn, Part, Reading, Seen, started, with_segment}

-- what a direction does: its bytes are read; or nothing is handed on after a gap, until a segment begins with the number at which the packet
-- ends that was awaited there, if that is known; or nothing is handed on, since a header is none of a session packet
pub data State : Type 0 where
  Reads : Reading → State
  AfterGap : Option ℕ → State
  AfterBadHeader : State

-- what is read where a segment with this number comes, if something is
abbrev pub reading_at : State → ℕ → Option Reading
reading_at (Reads reading) number = Some reading
reading_at (AfterGap (Some end)) number = cond (end == number) (Some (started number)) None
reading_at (AfterGap None) number = None
reading_at AfterBadHeader number = None

-- why nothing is handed on
abbrev pub reason_in : State → Reason
reason_in (Reads reading) = Gap
reason_in (AfterGap end) = Gap
reason_in AfterBadHeader = BadHeader

-- so many bytes are left out for this reason
abbrev pub lost : Reason → ℕ → Option LeftOut
lost reason count = Some (record { reason = reason; count = count })

-- IsMissing reading place part: what is in order ends with the bytes of a segment at this place that are captured, and it has more
abbrev pub IsMissing : Reading → ℕ → Part → Type 0
IsMissing reading place part = IsTrue part.is_cut × (START + length reading.out ≡ place + length part.bytes)

-- IsEnd reading end: the header of the packet that is awaited is there, and the packet ends where this number begins
abbrev pub IsEnd : Reading → ℕ → Type 0
IsEnd reading end = (needed : ℕ) × (HEADER_LENGTH ≤ length reading.held) × Parses reading.held (More needed)
    × (end ≡ (reading.first + (START + length reading.out) + needed) % 2 ^ 32)

-- Leaves reading place one state: what is read with a segment at this place is followed by this state. Only a bad header ends the reading,
-- or that bytes are missing, or have no room; then the rest that is in no packet is left out
abbrev pub Leaves : Reading → ℕ → Seen → State → Type 0
Leaves reading place one (Reads same) =
    (same ≡ reading) × Lacks reading.held × (IsMissing reading place one.part → ⊥) × (one.answer.left_out ≡ None)
Leaves reading place one (AfterGap (Some end)) =
    IsMissing reading place one.part × IsEnd reading end × (one.answer.left_out ≡ lost Gap (length reading.held))
Leaves reading place one (AfterGap None) =
    ((IsMissing reading place one.part × (length reading.held < HEADER_LENGTH)) ⊎ (one.answer.fits ≡ false))
    × (one.answer.left_out ≡ lost Gap (length reading.held))
Leaves reading place one AfterBadHeader =
    ((fault : SessionFault) × Parses reading.held (Refused fault)) × (one.answer.left_out ≡ lost BadHeader (length reading.held))

-- Goes old one after: what is read of a direction is followed by this state with one more segment. It is read on; or it isn't taken, since
-- there is no room for it or no place, and is left out with the rest that was there
pub data Goes (old : Reading) (one : Seen) : State → Type 0 where
  reads_on : (place : ℕ) (new : Reading) (after : State) → ComesAt old place one.part one.answer.differs
      → HandsOn (with_segment old place one.part) one.answer.packets new → Leaves new place one after → Goes old one after
  given_up : (place : ℕ) → ComesAt old place one.part one.answer.differs
      → (one.answer.fits ≡ false) ⊎ (LAST < START + length old.out + 2 ^ 31 + length one.part.bytes) → one.answer.packets ≡ []
      → one.answer.left_out ≡ lost Gap (length old.held + length one.part.bytes) → Goes old one (AfterGap None)

-- IsPassed state one: where nothing is handed on, all of a segment is left out
abbrev pub IsPassed : State → Seen → Type 0
IsPassed state one =
    (one.answer.packets ≡ []) × (one.answer.differs ≡ false) × (one.answer.left_out ≡ lost (reason_in state) (length one.part.bytes))

-- Course first seen state: a direction whose first byte has this number, of which these segments came, is in this state
pub data Course (first : ℕ) : List Seen → State → Type 0 where
  begun : Course first [] (Reads (started first))
  read : (seen : List Seen) (state after : State) (one : Seen) (old : Reading) → Course first seen state
      → reading_at state one.part.number ≡ Some old → Goes old one after → Course first (seen ++ one ∷ []) after
  passed : (seen : List Seen) (state : State) (one : Seen) → Course first seen state → reading_at state one.part.number ≡ None
      → IsPassed state one → Course first (seen ++ one ∷ []) state
