-- The directions of a capture: which segments are of which, and where each begins.
use Rattle.std.specs.Prelude.{ℕ, ◌≡◌, ◌≤◌, ◌==◌, ◌+◌, ◌-◌, ◌%◌, ◌^◌, ◌&&◌, ◌||◌, Bool, true, false, IsTrue, nat_le, nat_lt, not, min, cond, List, [], ◌∷◌, ◌++◌, length, filter, fold, bit_and, Option, Some, None, Result, Ok, Err}
use Rattle.std.specs.BTreeMap.{btree_map_len, get, values}
use Rattle.nb_streams.specs.declared.bytes.NoMemory.{NoMemory}
use Rattle.nb_frames.specs.declared.carried.TcpSegment.{TcpSegment}
use Rattle.nb_session.specs.Cutting.{ArePackets}
use Rattle.nb_session.specs.declared.limits.TheConstants.{HEADER_LENGTH}
use Rattle.nb_connections.specs.declared.limits.TheConstants.{MAX_DIRECTIONS, MAX_KEPT}
use Rattle.nb_connections.specs.declared.channel.Channel.{Channel}
use Rattle.nb_connections.specs.declared.connections.Connections.{Connections}
use Rattle.nb_connections.specs.declared.piece.Ends.{Ends}
use Rattle.nb_connections.specs.declared.taken.Reason.{Reason}
use Rattle.nb_connections.specs.declared.taken.Reason.TheVariants.{Gap, BadHeader, NoStart, Reset, TooMany}
use Rattle.nb_connections.specs.declared.taken.Taken.{Taken}
use Rattle.nb_connections.specs.Channels.{IsAnswered, IsGrown, begins, begun_with, is_unfinished, kept_of, with_one}
use Rattle.nb_connections.specs.Course.{lost}
use Rattle.nb_connections.specs.Ends.{ends_cmp, same_ends}
use Rattle.nb_connections.specs.Reading.{Answer, Part, Seen}

-- a segment that came: the ends of its direction, whether it has a SYN, whether it is read as one of its direction, and what is seen of it
pub record Came : Type 0 where
  pub ends : Ends
  pub opens : Bool
  pub is_read : Bool
  pub seen : Seen

-- a direction with one more segment, which may begin it anew, or be the first one
abbrev pub step : Option (ℕ × List Seen) → Came → Option (ℕ × List Seen)
step None came = Some (with_one (came.seen.part.number, []) came.seen)
step (Some direction) came = Some (with_one (begun_with direction came.opens came.seen.part.number) came.seen)

-- the direction of these segments, which have the same ends
abbrev pub since : List Came → Option (ℕ × List Seen)
since all = fold step None all

-- is_of ends came: the segment is of the direction with these ends
abbrev pub is_of : Ends → Came → Bool
is_of ends came = came.is_read && same_ends came.ends ends

-- IsKept kept direction: what is kept of a direction follows it; where none came, nothing is kept
abbrev pub IsKept : Option Channel → Option (ℕ × List Seen) → Type 0
IsKept None None = Unit {0}
IsKept None (Some direction) = ⊥
IsKept (Some channel) None = ⊥
IsKept (Some channel) (Some direction) = IsGrown channel direction

-- how much directions keep together
abbrev pub kept_in : List (Ends × Channel) → ℕ
kept_in [] = 0
kept_in (entry ∷ entries) = kept_of entry.1 + kept_in entries

-- what is kept is counted, and bounded
abbrev pub IsBounded : Connections → Type 0
IsBounded connections = (connections.kept ≡ kept_in connections.channels.entries) × (connections.kept ≤ MAX_KEPT)

-- Knows connections all: these are all segments that came, with what was answered for each; of each direction is kept what its own segments
-- say, and no more of all of them than may be
pub record Knows (connections : Connections) (all : List Came) : Type 0 where
  pub each : (ends : Ends) → IsKept (get ends_cmp connections.channels ends) (since (filter (is_of ends) all))
  pub bounded : IsBounded connections

-- ---- a segment as it came

-- a control bit is set
abbrev pub has : ℕ → ℕ → Bool
has flags bit = not (bit_and flags bit == 0)

-- it has a SYN
abbrev pub opens : TcpSegment → Bool
opens segment = has segment.flags.0 2

-- how many numbers bytes and a FIN take; there are fewer than 2^32
abbrev pub numbers_of : ℕ → Bool → ℕ
numbers_of wire ends = min wire (2 ^ 32 - 2) + cond ends 1 0

-- the number of the first byte: of a SYN, that after it
abbrev pub first_number : ℕ → Bool → ℕ
first_number sequence opens = (sequence + cond opens 1 0) % 2 ^ 32

-- the ends of a segment's direction
abbrev pub ends_of : TcpSegment → Ends
ends_of segment = record { hosts = segment.hosts; ports = segment.ports }

-- what a segment has of it
abbrev pub part_in : TcpSegment → Part
part_in segment = record {
  number = first_number segment.sequence (opens segment);
  bytes = segment.payload.bytes;
  numbers = numbers_of segment.payload.wire_length (has segment.flags.0 1);
  is_cut = nat_lt (length segment.payload.bytes) segment.payload.wire_length;
}

-- a direction may begin with a segment: where it has no SYN, the header of a packet is there
abbrev pub may_begin : Bool → List ℕ → Bool
may_begin opens bytes = opens || nat_le HEADER_LENGTH (length bytes)

-- ---- what becomes of a segment

-- how much is kept of a direction
abbrev pub kept_by : Option Channel → ℕ
kept_by None = 0
kept_by (Some channel) = kept_of channel

-- how much may be kept of it: what the others leave
abbrev pub room_for : Connections → Ends → ℕ
room_for connections ends = MAX_KEPT - (connections.kept - kept_by (get ends_cmp connections.channels ends))

-- IsWhy old ends resets opens bytes reason: a segment is read as one of no direction, for this reason
abbrev pub IsWhy : Connections → Ends → Bool → Bool → List ℕ → Reason → Type 0
IsWhy old ends resets opens bytes Reset = IsTrue resets
IsWhy old ends resets opens bytes NoStart = (get ends_cmp old.channels ends ≡ None) × (may_begin opens bytes ≡ false)
IsWhy old ends resets opens bytes TooMany = (get ends_cmp old.channels ends ≡ None) × (MAX_DIRECTIONS ≤ btree_map_len old.channels)
IsWhy old ends resets opens bytes Gap = ⊥
IsWhy old ends resets opens bytes BadHeader = ⊥

-- IsLeft old ends resets opens bytes result: then all of it is left out, unless memory ran out
abbrev pub IsLeft : Connections → Ends → Bool → Bool → List ℕ → Result Taken NoMemory → Type 0
IsLeft old ends resets opens bytes (Ok taken) =
    (reason : Reason) × IsWhy old ends resets opens bytes reason × (taken ≡ record { left_out = lost reason (length bytes); differs = false })
IsLeft old ends resets opens bytes (Err e) = Unit {0}

-- IsTold old ends resets opens part is_read answer result: this is answered for a segment of its direction, or of none
abbrev pub IsTold : Connections → Ends → Bool → Bool → Part → Bool → Answer → Result Taken NoMemory → Type 0
IsTold old ends resets opens part true answer result =
    (resets ≡ false) × IsAnswered (kept_by (get ends_cmp old.channels ends)) (room_for old ends) (length part.bytes) answer result
IsTold old ends resets opens part false answer result = (answer.packets ≡ []) × IsLeft old ends resets opens part.bytes result

-- a segment of these ends, which has this, came
abbrev pub came_of : Ends → Bool → Part → Bool → Answer → Came
came_of ends opens part is_read answer =
    record { ends = ends; opens = opens; is_read = is_read; seen = record { part = part; answer = answer } }

-- Enters old ends resets opens part new ready result: a segment of these ends comes, which has this; the packets are ready that are answered
abbrev pub Enters : Connections → Ends → Bool → Bool → Part → Connections → List ℕ → Result Taken NoMemory → Type 0
Enters old ends resets opens part new ready result = (all : List Came) → Knows old all → (is_read : Bool) × (answer : Answer)
    × ArePackets answer.packets ready × IsTold old ends resets opens part is_read answer result
    × Knows new (all ++ came_of ends opens part is_read answer ∷ [])

-- Takes old segment new ready result: a segment is taken
abbrev pub Takes : Connections → TcpSegment → Connections → List ℕ → Result Taken NoMemory → Type 0
Takes old segment new ready result =
    Enters old (ends_of segment) (has segment.flags.0 4) (opens segment) (part_in segment) new ready result

-- ---- what is missing

-- so many, and one more where a test is true, as far as a number goes
abbrev pub one_more : ℕ → Bool → ℕ
one_more count test = min (count + cond test 1 0) (2 ^ 64 - 1)

-- how many directions began anew with bytes that are in no packet, where so many did before a segment of this direction
abbrev pub lost_with : ℕ → Option Channel → Bool → ℕ → ℕ
lost_with count None opens number = count
lost_with count (Some channel) opens number = one_more count (begins channel.first opens number && is_unfinished channel)

-- the same of connections
abbrev pub lost_after : Connections → TcpSegment → ℕ
lost_after old segment = cond (has segment.flags.0 4) old.lost
    (lost_with old.lost (get ends_cmp old.channels (ends_of segment)) (opens segment) (part_in segment).number)

-- so many, and those of these directions that have bytes in no packet
abbrev pub unfinished_in : ℕ → List Channel → ℕ
unfinished_in count [] = count
unfinished_in count (channel ∷ channels) = unfinished_in (one_more count (is_unfinished channel)) channels

-- of how many directions some bytes are in no packet, since others didn't come
abbrev pub unfinished_of : Connections → ℕ
unfinished_of connections = unfinished_in connections.lost (values connections.channels)
