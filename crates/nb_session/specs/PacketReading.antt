-- What reading one packet from a reader takes from it, and how its calls of the reader are counted.
use Rattle.std.specs.Prelude.{◌≡◌, ℕ, ◌+◌, ◌≤◌, ◌<◌, List, [], length, take, Option, Some, None, Result, Ok, Err}
use Rattle.std.specs.Io.KnownBytes.{IsAtEnd}
use Rattle.nb_streams.specs.Counted.{Counts}
use Rattle.nb_session.specs.declared.parsing.Header.{Header}
use Rattle.nb_session.specs.declared.packet.Kind.{Kind}
use Rattle.nb_session.specs.declared.limits.TheConstants.{HEADER_LENGTH, MAX_PACKET, MAX_INTERRUPTS}
use Rattle.nb_session.specs.declared.packet_reading.ReadFault.{ReadFault}
use Rattle.nb_session.specs.declared.packet_reading.ReadFault.TheVariants.{Refused, EndInside, Device, TooManyInterrupts, NoMemory}
use Rattle.nb_session.specs.declared.parsing.Parsed.TheVariants.{Refused as refused}
use Rattle.nb_session.specs.Header.{HasHeader, IsGood}
use Rattle.nb_session.specs.Packet.{Packet, IsPacket}
use Rattle.nb_session.specs.Parsing.{Parses, Lacks}

-- these bytes are a header that packets have, and nothing more
abbrev pub IsHeader : List ℕ → Type 0
IsHeader bytes = (length bytes ≡ HEADER_LENGTH) × (header : Header) × (kind : Kind) × HasHeader bytes header × IsGood header kind

-- IsEarliest bytes: no shorter front of these bytes could be judged
abbrev pub IsEarliest : List ℕ → Type 0
IsEarliest bytes = (count : ℕ) → count < length bytes → Lacks (take count bytes)

-- Reads bytes left answer: these are the bytes taken for this answer, with those left: a packet; none, at
-- the reader's end; bytes that have a fault, and had none before the last came; bytes that lack some, at
-- the reader's end, or where it failed or was interrupted too often; or a header after
-- which memory ran out
abbrev pub Reads : List ℕ → Option (List ℕ) → Result (Option Packet) ReadFault → Type 0
Reads bytes left (Ok (Some packet)) = IsPacket packet bytes
Reads bytes left (Ok None) = (bytes ≡ []) × IsAtEnd left
Reads bytes left (Err (Refused fault)) = Parses bytes (refused fault) × IsEarliest bytes
Reads bytes left (Err (EndInside count)) = (length bytes ≡ count) × (0 < count) × Lacks bytes × IsAtEnd left
Reads bytes left (Err Device) = Lacks bytes
Reads bytes left (Err TooManyInterrupts) = Lacks bytes
Reads bytes left (Err NoMemory) = IsHeader bytes

-- how many reads failed
abbrev pub failures_of : Result (Option Packet) ReadFault → ℕ
failures_of (Ok read) = 0
failures_of (Err (Refused fault)) = 0
failures_of (Err (EndInside count)) = 0
failures_of (Err Device) = 1
failures_of (Err TooManyInterrupts) = 0
failures_of (Err NoMemory) = 0

-- how many reads gave no byte
abbrev pub ends_of : Result (Option Packet) ReadFault → ℕ
ends_of (Ok (Some packet)) = 0
ends_of (Ok None) = 1
ends_of (Err (Refused fault)) = 0
ends_of (Err (EndInside count)) = 1
ends_of (Err Device) = 0
ends_of (Err TooManyInterrupts) = 0
ends_of (Err NoMemory) = 0

-- MayInterrupt answer count: so many reads may have been interrupted: 1,024 exactly where they were too
-- many
abbrev pub MayInterrupt : Result (Option Packet) ReadFault → ℕ → Type 0
MayInterrupt (Ok read) count = count < MAX_INTERRUPTS
MayInterrupt (Err (Refused fault)) count = count < MAX_INTERRUPTS
MayInterrupt (Err (EndInside at)) count = count < MAX_INTERRUPTS
MayInterrupt (Err Device) count = count < MAX_INTERRUPTS
MayInterrupt (Err TooManyInterrupts) count = count ≡ MAX_INTERRUPTS
MayInterrupt (Err NoMemory) count = count < MAX_INTERRUPTS

-- Tells counts answer: the counts of the calls made show why this was answered
pub record Tells (counts : Counts) (answer : Result (Option Packet) ReadFault) : Type 0 where
  pub calls : counts.calls ≤ MAX_PACKET + MAX_INTERRUPTS
  pub failed : counts.failed ≡ failures_of answer
  pub empty : counts.empty ≡ ends_of answer
  pub interrupted : MayInterrupt answer counts.interrupted
