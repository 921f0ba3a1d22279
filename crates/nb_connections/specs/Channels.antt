-- What is kept of a direction.
use Rattle.std.specs.Prelude.{ℕ, ◌≡◌, ◌<◌, ◌==◌, ◌&&◌, ◌||◌, ◌⊎◌, Bool, false, ltb, not, cond, List, [], ◌∷◌, ◌++◌, Some, None, ◌+◌, length, Result, Ok, Err}
use Rattle.nb_streams.specs.declared.bytes.NoMemory.{NoMemory}
use Rattle.nb_session.specs.Cutting.{ArePackets}
use Rattle.nb_session.specs.declared.limits.TheConstants.{MAX_PACKET}
use Rattle.nb_tcp.specs.Kept.{Orders}
use Rattle.nb_tcp.specs.Runs.{charge_of}
use Rattle.nb_tcp.specs.Takes.{grown, waits}
use Rattle.nb_tcp.specs.declared.limits.TheConstants.{ROOM, START}
use Rattle.nb_connections.specs.declared.channel.Channel.{Channel}
use Rattle.nb_connections.specs.declared.closing.Closed.{Closed}
use Rattle.nb_connections.specs.declared.closing.Closed.TheVariants.{Gap, BadHeader}
use Rattle.nb_connections.specs.declared.taken.Reason.{Reason}
use Rattle.nb_connections.specs.declared.taken.Reason.TheVariants as why
use Rattle.nb_connections.specs.declared.taken.Taken.{Taken}
use Rattle.nb_connections.specs.Reading.{Answer, Reading, Seen}
use Rattle.nb_connections.specs.Course.{Course, State, Reads, AfterGap, AfterBadHeader}

-- KeepsReading channel reading: a channel keeps what is read of its direction
pub record KeepsReading (channel : Channel) (reading : Reading) : Type 0 where
  pub is_open : channel.closed ≡ None
  pub first : channel.direction.first ≡ reading.first
  pub orders : Orders START channel.direction reading.segments reading.out
  pub held : channel.held.items ≡ reading.held
  pub front : List ℕ
  pub there : ArePackets reading.packets front
  pub exact : reading.out ≡ front ++ reading.held

-- Keeps channel state: a channel is in a state
abbrev pub Keeps : Channel → State → Type 0
Keeps channel (Reads reading) = KeepsReading channel reading
Keeps channel (AfterGap end) = channel.closed ≡ Some (Gap end)
Keeps channel AfterBadHeader = channel.closed ≡ Some BadHeader

-- why nothing is handed on of a direction that is closed for this
abbrev pub reason_of : Closed → Reason
reason_of (Gap end) = why.Gap
reason_of BadHeader = why.BadHeader

-- IsGrown channel direction: a channel follows a direction, as the number of its first byte and the segments that came since it began
abbrev pub IsGrown : Channel → ℕ × List Seen → Type 0
IsGrown channel direction = (channel.first ≡ direction.0) × (state : State) × Course direction.0 direction.1 state × Keeps channel state

-- begins first opens number: a direction whose first byte has this number begins anew with a segment: that has a SYN, with another number
abbrev pub begins : ℕ → Bool → ℕ → Bool
begins first opens number = opens && not (number == first)

-- a direction where a segment comes: it begins anew with it, or goes on
abbrev pub begun_with : ℕ × List Seen → Bool → ℕ → ℕ × List Seen
begun_with direction opens number = cond (begins direction.0 opens number) (number, []) direction

-- a direction with one more segment
abbrev pub with_one : ℕ × List Seen → Seen → ℕ × List Seen
with_one direction seen = (direction.0, direction.1 ++ seen ∷ [])

-- how much a channel keeps, in bytes: what waits, what was handed on last, and the rest that is in no packet
abbrev pub kept_of : Channel → ℕ
kept_of channel = charge_of channel.direction.runs + length channel.held.items

-- some bytes of a channel are in no packet
abbrev pub is_unfinished : Channel → Bool
is_unfinished channel = ltb 0 (length channel.held.items) || waits channel.direction

-- NoRoom kept room count: where so much is kept of a direction, and so much may be, there may be no room for so many bytes more
abbrev pub NoRoom : ℕ → ℕ → ℕ → Type 0
NoRoom kept room count = (ROOM < grown kept count) ⊎ (room < grown kept count + MAX_PACKET)

-- IsAnswered kept room count answer result: this is answered for a segment of so many bytes, unless memory ran out; and it had room, or may
-- have had none
abbrev pub IsAnswered : ℕ → ℕ → ℕ → Answer → Result Taken NoMemory → Type 0
IsAnswered kept room count answer (Ok taken) =
    (taken.left_out ≡ answer.left_out) × (taken.differs ≡ answer.differs) × (answer.fits ≡ false → NoRoom kept room count)
IsAnswered kept room count answer (Err e) = answer.packets ≡ []
