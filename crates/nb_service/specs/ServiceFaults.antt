-- Why bytes begin with no name service packet, and where: the first fault in reading order (our choice). All
-- offsets count from the first byte.
--
-- A missing byte is reported by the number of bytes that are there, which is the first missing one's
-- offset. A name's own fault is reported as the name's.
use Rattle.std.specs.Prelude.{◌≡◌, ◌≢◌, ℕ, ◌+◌, ◌<◌, ◌≤◌, List, length}
use Rattle.std.specs.Int.{w16}
use Rattle.nb_names.specs.declared.reading.Pointers.TheVariants.{Followed}
use Rattle.nb_names.specs.declared.fault.NameFault.{NameFault}
use Rattle.nb_names.specs.Labels.{NameAt}
use Rattle.nb_streams.specs.Places.{NumberAt}
use Rattle.nb_names.specs.NameFaults.{FaultAt}
use Rattle.nb_service.specs.declared.fault.ServiceFault.{ServiceFault}
use Rattle.nb_service.specs.declared.fault.ServiceFault.TheVariants.{Truncated, Name, NameRdata, NoMemory}
use Rattle.nb_service.specs.declared.kinds.TheConstants.{NS}
use Rattle.nb_service.specs.declared.limits.TheConstants.{HEADER_LENGTH}
use Rattle.nb_service.specs.declared.record.Question.{Question}
use Rattle.nb_service.specs.Header.{PacketHeader, HasHeader}
use Rattle.nb_service.specs.Packet.{QuestionAt, RecordAt, Row, ServicePacket, records_of, IsPacket}

-- QuestionFails packet at fault: no question stands at this offset, and this is its first fault
pub data QuestionFails (packet : List ℕ) (at : ℕ) : ServiceFault → Type 0 where
  question_name : (fault : NameFault) → FaultAt packet Followed at fault
      → QuestionFails packet at (Name fault)
  question_cut : (labels : List (List ℕ)) (after : ℕ) → NameAt packet Followed at labels after
      → length packet < after + 4 → QuestionFails packet at (Truncated (length packet))

-- RdataBegins packet at kind size rdata: a record at this offset is of this type, and has `size` bytes
-- of RDATA, to begin at `rdata`
pub record RdataBegins (packet : List ℕ) (at kind size rdata : ℕ) : Type 0 where
  pub labels : List (List ℕ)
  pub after : ℕ
  pub name : NameAt packet Followed at labels after
  pub kind_there : NumberAt packet after w16 kind
  pub size_there : NumberAt packet (after + 8) w16 size
  pub begin : rdata ≡ after + 10

-- DomainFails packet at size fault: the `size` bytes at this offset are no domain name, and this is the
-- first fault
pub data DomainFails (packet : List ℕ) (at size : ℕ) : ServiceFault → Type 0 where
  domain_name : (fault : NameFault) → FaultAt packet Followed at fault
      → DomainFails packet at size (Name fault)
  domain_end : (labels : List (List ℕ)) (next : ℕ) → NameAt packet Followed at labels next
      → next ≢ at + size → DomainFails packet at size (NameRdata at)

-- RecordFails packet at fault: no record stands at this offset, and this is its first fault
pub data RecordFails (packet : List ℕ) (at : ℕ) : ServiceFault → Type 0 where
  record_name : (fault : NameFault) → FaultAt packet Followed at fault
      → RecordFails packet at (Name fault)
  record_cut : (labels : List (List ℕ)) (after : ℕ) → NameAt packet Followed at labels after
      → length packet < after + 10 → RecordFails packet at (Truncated (length packet))
  rdata_cut : (kind size rdata : ℕ) → RdataBegins packet at kind size rdata
      → length packet < rdata + size → RecordFails packet at (Truncated (length packet))
  rdata_fails : {fault : ServiceFault} (size rdata : ℕ) → RdataBegins packet at NS size rdata
      → rdata + size ≤ length packet → DomainFails packet rdata size fault → RecordFails packet at fault

-- RowFails Stands Fails at count fault: from this offset on some items stand, fewer than the count, and
-- after them the fault applies
pub record RowFails {A : Type 0} (Stands : ℕ → A → ℕ → Type 0) (Fails : ℕ → ServiceFault → Type 0) (at count : ℕ) (fault : ServiceFault) : Type 0 where
  pub items : List A
  pub here : ℕ
  pub before : Row Stands at items here
  pub fewer : length items < count
  pub fails : Fails here fault

-- QuestionsFail packet at count fault: the first fault in a row of questions
abbrev pub QuestionsFail : List ℕ → ℕ → ℕ → ServiceFault → Type 0
QuestionsFail packet = RowFails (QuestionAt packet) (QuestionFails packet)

-- RecordsFail packet at count fault: the first fault in a row of records
abbrev pub RecordsFail : List ℕ → ℕ → ℕ → ServiceFault → Type 0
RecordsFail packet = RowFails (RecordAt packet) (RecordFails packet)

-- how many records a header promises
abbrev pub record_count : PacketHeader → ℕ
record_count header = header.answers + (header.authorities + header.additional)

-- how many questions and records
abbrev pub item_count : PacketHeader → ℕ
item_count header = header.questions + record_count header

-- PacketFails bytes fault: these bytes begin with no packet, and this is the first fault
pub data PacketFails (bytes : List ℕ) : ServiceFault → Type 0 where
  cut_header : length bytes < HEADER_LENGTH → PacketFails bytes (Truncated (length bytes))
  in_questions : {fault : ServiceFault} (header : PacketHeader) → HasHeader bytes header
      → QuestionsFail bytes HEADER_LENGTH header.questions fault
      → PacketFails bytes fault
  in_records : {fault : ServiceFault} (header : PacketHeader) (questions : List Question) (after : ℕ)
      → HasHeader bytes header → Row (QuestionAt bytes) HEADER_LENGTH questions after
      → length questions ≡ header.questions
      → RecordsFail bytes after (record_count header) fault
      → PacketFails bytes fault

-- IsRefused bytes fault: the answer for these bytes: the first fault where they begin with no packet,
-- that memory ran out only where they begin with one that has an item
pub data IsRefused (bytes : List ℕ) : ServiceFault → Type 0 where
  malformed : {fault : ServiceFault} → PacketFails bytes fault → IsRefused bytes fault
  no_memory : (packet : ServicePacket) (used : ℕ) → IsPacket bytes packet used
      → 0 < length packet.questions + length (records_of packet) → IsRefused bytes NoMemory
