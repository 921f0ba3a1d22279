-- Name service packets, and how they stand in bytes (RFC 1002 section 4.2.1). All offsets count from
-- the packet's first byte. Numbers after the names of fields are their widths in bytes, and a field
-- `after` is the offset after a name.
--
-- Names are read over all of the bytes, their pointers followed, so a label may reach into bytes after
-- the last record.
--
-- Our choice: those bytes count as no part of the packet.
--
-- Our choice: the RDATA of a record of type NS is a domain name, which ends where the RDATA does.
use Rattle.std.specs.Prelude.{◌≡◌, ◌≢◌, ℕ, ◌+◌, ◌≤◌, List, [], ◌∷◌, ◌++◌, length}
use Rattle.std.specs.Int.{w16, w32}
use Rattle.nb_names.specs.declared.reading.Pointers.TheVariants.{Followed}
use Rattle.nb_streams.specs.Places.{StandsAt, NumberAt}
use Rattle.nb_names.specs.Labels.{NameAt}
use Rattle.nb_service.specs.declared.kinds.TheConstants.{NS}
use Rattle.nb_service.specs.declared.limits.TheConstants.{HEADER_LENGTH}
use Rattle.nb_service.specs.declared.record.Question.{Question}
use Rattle.nb_service.specs.Header.{PacketHeader, HasHeader}
use Rattle.nb_service.specs.Record.{ResourceData, of_bytes, of_domain, ResourceRecord}

-- QuestionAt packet at question next: at this offset the question stands (RFC 1002 section 4.2.1.2):
-- QUESTION_NAME, then QUESTION_TYPE 2, QUESTION_CLASS 2
pub record QuestionAt (packet : List ℕ) (at : ℕ) (question : Question) (next : ℕ) : Type 0 where
  pub after : ℕ
  pub name : NameAt packet Followed at question.name after
  pub kind : NumberAt packet after w16 question.kind
  pub class : NumberAt packet (after + 2) w16 question.class
  pub end : next ≡ after + 4

-- RdataAt packet at size kind rdata: at this offset stand `size` bytes, which are this RDATA of a record
-- of this type
pub data RdataAt (packet : List ℕ) (at size kind : ℕ) : ResourceData → Type 0 where
  bytes_there : (bytes : List ℕ) → kind ≢ NS → length bytes ≡ size → StandsAt packet at bytes
      → RdataAt packet at size kind (of_bytes bytes)
  domain_there : (labels : List (List ℕ)) → kind ≡ NS → NameAt packet Followed at labels (at + size)
      → RdataAt packet at size kind (of_domain labels)

-- RecordAt packet at entry next: at this offset the record stands (RFC 1002 section 4.2.1.3): RR_NAME,
-- then RR_TYPE 2, RR_CLASS 2, TTL 4, RDLENGTH 2, and RDATA of RDLENGTH bytes
pub record RecordAt (packet : List ℕ) (at : ℕ) (entry : ResourceRecord) (next : ℕ) : Type 0 where
  pub after : ℕ
  pub size : ℕ
  pub name : NameAt packet Followed at entry.name after
  pub kind : NumberAt packet after w16 entry.kind
  pub class : NumberAt packet (after + 2) w16 entry.class
  pub ttl : NumberAt packet (after + 4) w32 entry.ttl
  pub rdlength : NumberAt packet (after + 8) w16 size
  pub whole : after + 10 + size ≤ length packet
  pub rdata : RdataAt packet (after + 10) size entry.kind entry.rdata
  pub end : next ≡ after + 10 + size

-- Row Stands at items next: from this offset on the items stand, one after the other
pub data Row {A : Type 0} (Stands : ℕ → A → ℕ → Type 0) : ℕ → List A → ℕ → Type 0 where
  none : {at : ℕ} → Row Stands at [] at
  more : {at next : ℕ} (between : ℕ) (item : A) (items : List A)
      → Stands at item between → Row Stands between items next → Row Stands at (item ∷ items) next

-- a packet: its identifier, its flag word, its questions, and its records in three sections
pub record ServicePacket : Type 0 where
  pub id : ℕ
  pub word : ℕ
  pub questions : List Question
  pub answers : List ResourceRecord
  pub authorities : List ResourceRecord
  pub additional : List ResourceRecord

-- the header of a packet: its counts are the lengths of the lists
abbrev pub header_of : ServicePacket → PacketHeader
header_of packet =
    record {
      id = packet.id;
      word = packet.word;
      questions = length packet.questions;
      answers = length packet.answers;
      authorities = length packet.authorities;
      additional = length packet.additional;
    }

-- the records of a packet, in the order of its sections
abbrev pub records_of : ServicePacket → List ResourceRecord
records_of packet = packet.answers ++ (packet.authorities ++ packet.additional)

-- IsPacket bytes packet used: these bytes begin with this packet, which takes up `used` of them: its
-- header, its questions, then its records
pub record IsPacket (bytes : List ℕ) (packet : ServicePacket) (used : ℕ) : Type 0 where
  pub after : ℕ
  pub header : HasHeader bytes (header_of packet)
  pub questions : Row (QuestionAt bytes) HEADER_LENGTH packet.questions after
  pub records : Row (RecordAt bytes) after (records_of packet) used

-- HasOutline bytes header used: these bytes begin with a packet of this header, which takes up `used` of
-- them
pub record HasOutline (bytes : List ℕ) (header : PacketHeader) (used : ℕ) : Type 0 where
  pub packet : ServicePacket
  pub stands : IsPacket bytes packet used
  pub outlined : header_of packet ≡ header

-- HasSections bytes packet used: the questions stand after the header, and the answers, the authorities
-- and the additional records one after the other from where the questions end
pub record HasSections (bytes : List ℕ) (packet : ServicePacket) (used : ℕ) : Type 0 where
  pub answers : ℕ
  pub authorities : ℕ
  pub additional : ℕ
  pub first : Row (QuestionAt bytes) HEADER_LENGTH packet.questions answers
  pub second : Row (RecordAt bytes) answers packet.answers authorities
  pub third : Row (RecordAt bytes) authorities packet.authorities additional
  pub last : Row (RecordAt bytes) additional packet.additional used
