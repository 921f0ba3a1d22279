-- What the calls that read payloads of port 137 answer (RFC 1002 section 4.2.1). Places and lengths are in bytes of the
-- payload.
use Rattle.std.specs.Prelude.{◌≡◌, ℕ, ◌-◌, ◌<◌, ◌≤◌, List, length, is_some, Option, Some, None, Result, Ok, Err, if◌then◌else◌}
use Rattle.nb_calls.specs.Common.{spelling, name_of_labels, ServiceFault, Answer, Authority, Additional, PacketHeader, HasHeader, HasOutline, PacketFails, item_count, NbtServiceItem}
use Rattle.nb_service.specs.declared.record.Extent.{Extent}
use Rattle.nb_service.specs.declared.record.Fields.{Fields}
use Rattle.nb_service.specs.declared.limits.TheConstants.{HEADER_LENGTH}
use Rattle.nb_service.specs.declared.packet.Section.{Section}
use Rattle.nb_service.specs.Items.{PacketItem, section_of, fields_of, name_of, ItemAt, ItemFails, IsExtent}
use Rattle.nb_calls.specs.declared.service_reading.NbtServiceHeader.{NbtServiceHeader}
use Rattle.nb_calls.specs.declared.statuses.TheConstants as statuses
use Rattle.nb_calls.specs.Names.{spelled_in_place}
use Rattle.nb_calls.specs.Statuses.{Refusal, Fault, FaultAt, service_refusal}

-- ---- headers

-- header_numbers header used: the fields of a header, and how many bytes what is read has
abbrev pub header_numbers : PacketHeader → ℕ → NbtServiceHeader
header_numbers header used = record {
  identifier = header.id;
  word = header.word;
  questions = header.questions;
  answers = header.answers;
  authorities = header.authorities;
  additional = header.additional;
  used = used;
}

-- why no header stands at the front of the payload
abbrev pub cut_header : List ℕ → Refusal
cut_header payload = FaultAt statuses.TRUNCATED (length payload)

-- ReadsHeader payload answer: the payload begins with a header, whose fields are answered, or is too short for one
abbrev pub ReadsHeader : List ℕ → Result NbtServiceHeader Refusal → Type 0
ReadsHeader payload (Ok found) = (header : PacketHeader) × HasHeader payload header × (found ≡ header_numbers header HEADER_LENGTH)
ReadsHeader payload (Err refusal) = (length payload < HEADER_LENGTH) × (refusal ≡ cut_header payload)

-- ReadsPacket payload answer: the payload begins with a packet, whose header and length are answered, or has this fault
abbrev pub ReadsPacket : List ℕ → Result NbtServiceHeader Refusal → Type 0
ReadsPacket payload (Ok found) =
    (header : PacketHeader) × (used : ℕ) × HasOutline payload header used × (found ≡ header_numbers header used)
ReadsPacket payload (Err refusal) = (fault : ServiceFault) × PacketFails payload fault × (refusal ≡ service_refusal fault)

-- ---- items

-- the number of a section: that of questions, which are in none, is 0
abbrev pub section_number : Option Section → ℕ
section_number None = 0
section_number (Some Answer) = 1
section_number (Some Authority) = 2
section_number (Some Additional) = 3

-- whether the labels are a NetBIOS name's, as a number
abbrev pub netbios_number : List (List ℕ) → ℕ
netbios_number labels = if is_some (name_of_labels labels) then 1 else 0

-- numbers section fields labels: what is answered of an item with these fields and this name
abbrev pub numbers : ℕ → Fields → List (List ℕ) → NbtServiceItem
numbers section fields labels = record {
  section = section;
  time_to_live = fields.ttl;
  kind = fields.kind;
  class = fields.class;
  contents = fields.extent.rdata;
  contents_length = fields.extent.next - fields.extent.rdata;
  next = fields.extent.next;
  netbios = netbios_number labels;
  name_length = length (spelling labels);
  name = spelled_in_place labels;
}

-- item_numbers item extent: an item's fields, and where its parts stand
abbrev pub item_numbers : PacketItem → Extent → NbtServiceItem
item_numbers item extent = numbers (section_number (section_of item)) (fields_of item extent) (name_of item)

-- ReadsItem payload number at answer: this is answered of the item of this number, where it is said to stand at this offset:
-- the payload has no header; its header counts no such item; none stands whole there, and why; or what stands there
pub data ReadsItem (payload : List ℕ) (number at : ℕ) : Result NbtServiceItem Refusal → Type 0 where
  headless : length payload < HEADER_LENGTH → ReadsItem payload number at (Err (cut_header payload))
  uncounted : (header : PacketHeader) → HasHeader payload header → item_count header ≤ number
      → ReadsItem payload number at (Err (Fault statuses.NO_ITEM))
  fails : (header : PacketHeader) (fault : ServiceFault) → HasHeader payload header → ItemFails payload header number at fault
      → ReadsItem payload number at (Err (service_refusal fault))
  stands : (header : PacketHeader) (item : PacketItem) (extent : Extent) → HasHeader payload header
      → ItemAt payload header number at item extent.next → IsExtent payload at item extent
      → ReadsItem payload number at (Ok (item_numbers item extent))
