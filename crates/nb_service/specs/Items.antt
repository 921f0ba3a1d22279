-- The items of a packet, one by one: its questions and its records (RFC 1002 sections 4.2.1.2, 4.2.1.3), in the order of
-- section 4.2.1: questions, answers, authorities, additional records. The first stands after the header. They are counted from 0.
--
-- Our choice: of bytes that begin with no packet the items are those that stand whole, one after another, before the first
-- that doesn't.
use Rattle.std.specs.Prelude.{◌≡◌, ℕ, ◌+◌, ◌<◌, ◌≤◌, List, [], ◌∷◌, ◌++◌, length, map, Option, Some, None, ◌-◌, min}
use Rattle.nb_names.specs.declared.reading.Pointers.TheVariants.{Followed}
use Rattle.nb_names.specs.Skipped.{IsSkipped}
use Rattle.nb_service.specs.declared.record.Extent.{Extent}
use Rattle.nb_service.specs.declared.fault.ServiceFault.{ServiceFault}
use Rattle.nb_service.specs.declared.record.Fields.{Fields}
use Rattle.nb_service.specs.declared.limits.TheConstants.{HEADER_LENGTH}
use Rattle.nb_service.specs.declared.record.Question.{Question}
use Rattle.nb_service.specs.declared.packet.Section.{Section}
use Rattle.nb_service.specs.declared.seen.Seen.{Seen}
use Rattle.nb_service.specs.declared.packet.Section.TheVariants.{Answer, Authority, Additional}
use Rattle.nb_service.specs.Header.{PacketHeader, HasHeader}
use Rattle.nb_service.specs.Record.{ResourceRecord}
use Rattle.nb_service.specs.Packet.{QuestionAt, RecordAt, ServicePacket, header_of, IsPacket}
use Rattle.nb_service.specs.ServiceFaults.{QuestionFails, RdataBegins, RecordFails, item_count, PacketFails}
use Rattle.nb_service.specs.declared.seeing.Walked.{Walked}
use Rattle.nb_service.specs.Code.Steps.{RowOf}

-- an item: a question, or a record of a section
pub data PacketItem : Type 0 where
  asked : Question → PacketItem
  told : Section → ResourceRecord → PacketItem

-- the section of a record; a question has none
abbrev pub section_of : PacketItem → Option Section
section_of (asked question) = None
section_of (told section entry) = Some section

-- the name of an item
abbrev pub name_of : PacketItem → List (List ℕ)
name_of (asked question) = question.name
name_of (told section entry) = entry.name

-- question_fields question extent: what stands in it beside its name, where it reaches so far
abbrev pub question_fields : Question → Extent → Fields
question_fields question extent = record { kind = question.kind; class = question.class; ttl = 0; extent = extent }

-- record_fields entry extent: what stands in it beside its name and its RDATA, where it reaches so far
abbrev pub record_fields : ResourceRecord → Extent → Fields
record_fields entry extent = record { kind = entry.kind; class = entry.class; ttl = entry.ttl; extent = extent }

-- those of an item
abbrev pub fields_of : PacketItem → Extent → Fields
fields_of (asked question) = question_fields question
fields_of (told section entry) = record_fields entry

-- IsRecordOf header number section: by the counts of the header the item of this number is a record of this section
abbrev pub IsRecordOf : PacketHeader → ℕ → Section → Type 0
IsRecordOf header number Answer =
    (header.questions ≤ number) × (number < header.questions + header.answers)
IsRecordOf header number Authority =
    (header.questions + header.answers ≤ number) × (number < header.questions + header.answers + header.authorities)
IsRecordOf header number Additional =
    (header.questions + header.answers + header.authorities ≤ number)
    × (number < header.questions + header.answers + header.authorities + header.additional)

-- ItemAt packet header number at item next: in a packet of this header the item of this number stands at this offset
pub data ItemAt (packet : List ℕ) (header : PacketHeader) (number at : ℕ) : PacketItem → ℕ → Type 0 where
  question_there : (question : Question) (next : ℕ) → number < header.questions → QuestionAt packet at question next
      → ItemAt packet header number at (asked question) next
  record_there : (section : Section) (entry : ResourceRecord) (next : ℕ) → IsRecordOf header number section
      → RecordAt packet at entry next → ItemAt packet header number at (told section entry) next

-- ItemFails packet header number at fault: the item of this number doesn't stand at this offset, and this is its first
-- fault
pub data ItemFails (packet : List ℕ) (header : PacketHeader) (number at : ℕ) (fault : ServiceFault) : Type 0 where
  question_fails : number < header.questions → QuestionFails packet at fault → ItemFails packet header number at fault
  record_fails : header.questions ≤ number → number < item_count header → RecordFails packet at fault
      → ItemFails packet header number at fault

-- Reaches packet at entry extent: RDATA of this record, which stands at this offset, reaches from `extent.rdata` to `extent.next`
abbrev pub Reaches : List ℕ → ℕ → ResourceRecord → Extent → Type 0
Reaches packet at entry extent =
    (size : ℕ) × RdataBegins packet at entry.kind size extent.rdata × (extent.next ≡ extent.rdata + size)

-- IsExtent packet at item extent: of this item, which stands at this offset, RDATA reaches from `extent.rdata` to `extent.next`;
-- a question has none
abbrev pub IsExtent : List ℕ → ℕ → PacketItem → Extent → Type 0
IsExtent packet at (asked question) extent = extent.rdata ≡ extent.next
IsExtent packet at (told section entry) extent = Reaches packet at entry extent

-- SeesQuestion packet question seen: this question stands at `seen.at`, and that is what is seen of it
pub record SeesQuestion (packet : List ℕ) (question : Question) (seen : Seen) : Type 0 where
  pub stands : QuestionAt packet seen.at question seen.fields.extent.next
  pub reaches : seen.fields.extent.rdata ≡ seen.fields.extent.next
  pub name : IsSkipped packet Followed seen.at question.name seen.name
  pub fields : seen.fields ≡ question_fields question seen.fields.extent

-- SeesRecord packet entry seen: this record stands at `seen.at`, and that is what is seen of it
pub record SeesRecord (packet : List ℕ) (entry : ResourceRecord) (seen : Seen) : Type 0 where
  pub stands : RecordAt packet seen.at entry seen.fields.extent.next
  pub begins : seen.fields.extent.rdata ≡ stands.after + 10
  pub name : IsSkipped packet Followed seen.at entry.name seen.name
  pub fields : seen.fields ≡ record_fields entry seen.fields.extent

-- Sees packet item seen: likewise of an item
abbrev pub Sees : List ℕ → PacketItem → Seen → Type 0
Sees packet (asked question) seen = SeesQuestion packet question seen
Sees packet (told section entry) seen = SeesRecord packet entry seen

-- ItemsAt packet header number at items next: from this offset on the items stand, one after another, of which the first
-- has this number
pub data ItemsAt (packet : List ℕ) (header : PacketHeader) : ℕ → ℕ → List PacketItem → ℕ → Type 0 where
  no_item : {number at : ℕ} → ItemsAt packet header number at [] at
  one_more : {number at next : ℕ} (between : ℕ) (item : PacketItem) (items : List PacketItem)
      → ItemAt packet header number at item between → ItemsAt packet header (number + 1) between items next
      → ItemsAt packet header number at (item ∷ items) next

-- HasItems bytes header items next: these bytes begin with this header, and from its end on these items stand, one after
-- another, and no further one
pub record HasItems (bytes : List ℕ) (header : PacketHeader) (items : List PacketItem) (next : ℕ) : Type 0 where
  pub header_there : HasHeader bytes header
  pub items_there : ItemsAt bytes header 0 HEADER_LENGTH items next
  pub no_further : (item : PacketItem) (after : ℕ) → ¬ ItemAt bytes header (length items) next item after

-- the items of a packet, in the order in which they stand
abbrev pub items_of : ServicePacket → List PacketItem
items_of packet =
    map asked packet.questions
    ++ (map (told Answer) packet.answers
    ++ (map (told Authority) packet.authorities ++ map (told Additional) packet.additional))

-- ---- how far the items of a packet stand, and why no further

-- walked_of header items next fault: so many items, by the counts of the header
abbrev pub walked_of : PacketHeader → ℕ → ℕ → Option ServiceFault → Walked
walked_of header items next fault =
    let questions = min items header.questions in
    let records = items - questions in
    let answers = min records header.answers in
    let rest = records - answers in
    let authorities = min rest header.authorities in
    record {
      questions = questions;
      answers = answers;
      authorities = authorities;
      additional = rest - authorities;
      next = next;
      fault = fault;
    }

-- EndsWith bytes header part next fault: the items are all of a packet, or the next one has this fault, which is that of the bytes
abbrev pub EndsWith : List ℕ → PacketHeader → ServicePacket → ℕ → Option ServiceFault → Type 0
EndsWith bytes header part next None = IsPacket bytes part next × (header_of part ≡ header)
EndsWith bytes header part next (Some fault) = PacketFails bytes fault

-- Walks bytes header walked: in bytes with this header so many items stand, those of `part`, one section after the other, and
-- why no further one does
pub record Walks (bytes : List ℕ) (header : PacketHeader) (walked : Walked) : Type 0 where
  pub part : ServicePacket
  pub from_answers : ℕ
  pub from_authorities : ℕ
  pub from_additional : ℕ
  pub questions : RowOf (QuestionAt bytes) HEADER_LENGTH walked.questions part.questions from_answers
  pub answers : RowOf (RecordAt bytes) from_answers walked.answers part.answers from_authorities
  pub authorities : RowOf (RecordAt bytes) from_authorities walked.authorities part.authorities from_additional
  pub additional : RowOf (RecordAt bytes) from_additional walked.additional part.additional walked.next
  pub items : HasItems bytes header (items_of part) walked.next
  pub end : EndsWith bytes header part walked.next walked.fault
