-- The bytes that a packet is written as (RFC 1002 section 4.2.1). Numbers are big-endian.
--
-- Our choice: a record's name that has a label and is the first question's is written as a pointer to where
-- that name stands, at the first offset after the header. All other names are spelled, also the one in
-- the RDATA of a record of type NS.
use Rattle.std.specs.Prelude.{ℕ, ◌<◌, ◌^◌, Bool, false, List, [], ◌∷◌, ◌++◌, length, if◌then◌else◌}
use Rattle.std.specs.Int.{w16, w32, to_be_bytes}
use Rattle.std.specs.List.{AllByRecursion, flat_map}
use Rattle.nb_names.specs.DomainName.{spelling, domain_eq, IsDomain}
use Rattle.nb_names.specs.Labels.{pointer_bytes}
use Rattle.nb_service.specs.declared.limits.TheConstants.{HEADER_LENGTH}
use Rattle.nb_service.specs.declared.record.Question.{Question}
use Rattle.nb_service.specs.Header.{PacketHeader}
use Rattle.nb_service.specs.Record.{ResourceData, of_bytes, of_domain, ResourceRecord, IsRdataOf}
use Rattle.nb_service.specs.Packet.{ServicePacket, header_of, records_of}
use Rattle.nb_service.specs.Requests.{IsCounted}

-- the bytes of a header: NAME_TRN_ID, the flag word, QDCOUNT, ANCOUNT, NSCOUNT, ARCOUNT
abbrev pub header_bytes : PacketHeader → List ℕ
header_bytes header =
    to_be_bytes w16 header.id
    ++ (to_be_bytes w16 header.word
    ++ (to_be_bytes w16 header.questions
    ++ (to_be_bytes w16 header.answers
    ++ (to_be_bytes w16 header.authorities ++ to_be_bytes w16 header.additional))))

-- the bytes of a question: QUESTION_NAME, QUESTION_TYPE, QUESTION_CLASS
abbrev pub question_bytes : Question → List ℕ
question_bytes question =
    spelling question.name ++ (to_be_bytes w16 question.kind ++ to_be_bytes w16 question.class)

-- is_pointed questions name: whether the name has a label and is the first question's
abbrev pub is_pointed : List Question → List (List ℕ) → Bool
is_pointed [] name = false
is_pointed (question ∷ questions) [] = false
is_pointed (question ∷ questions) (label ∷ labels) = domain_eq question.name (label ∷ labels)

-- name_bytes questions name: the bytes of a record's name, where these are the packet's questions
abbrev pub name_bytes : List Question → List (List ℕ) → List ℕ
name_bytes questions name =
    if is_pointed questions name then pointer_bytes HEADER_LENGTH else spelling name

-- the bytes of RDATA
abbrev pub rdata_bytes : ResourceData → List ℕ
rdata_bytes (of_bytes bytes) = bytes
rdata_bytes (of_domain labels) = spelling labels

-- record_bytes questions entry: the bytes of a record, where these are the packet's questions: RR_NAME,
-- RR_TYPE, RR_CLASS, TTL, RDLENGTH, RDATA
abbrev pub record_bytes : List Question → ResourceRecord → List ℕ
record_bytes questions entry =
    name_bytes questions entry.name
    ++ (to_be_bytes w16 entry.kind
    ++ (to_be_bytes w16 entry.class
    ++ (to_be_bytes w32 entry.ttl
    ++ (to_be_bytes w16 (length (rdata_bytes entry.rdata)) ++ rdata_bytes entry.rdata))))

-- the bytes of a packet: its header, its questions, then its records
abbrev pub packet_bytes : ServicePacket → List ℕ
packet_bytes packet =
    header_bytes (header_of packet)
    ++ (flat_map question_bytes packet.questions
    ++ flat_map (record_bytes packet.questions) (records_of packet))

-- ---- what can be written

-- the numbers of a question fit their fields, and its labels make a name
pub record IsQuestion (question : Question) : Type 0 where
  pub name : IsDomain question.name
  pub kind : question.kind < 2 ^ 16
  pub class : question.class < 2 ^ 16

-- a name in RDATA is one
abbrev pub IsNamedData : ResourceData → Type 0
IsNamedData (of_bytes bytes) = Unit {0}
IsNamedData (of_domain labels) = IsDomain labels

-- the numbers of a record fit their fields, its labels make a name, and its type has such RDATA
pub record IsRecord (entry : ResourceRecord) : Type 0 where
  pub name : IsDomain entry.name
  pub kind : entry.kind < 2 ^ 16
  pub class : entry.class < 2 ^ 16
  pub ttl : entry.ttl < 2 ^ 32
  pub rdata : IsRdataOf entry.kind entry.rdata
  pub named : IsNamedData entry.rdata

-- each part of a packet fits its field
pub record IsWritable (packet : ServicePacket) : Type 0 where
  pub id : packet.id < 2 ^ 16
  pub word : packet.word < 2 ^ 16
  pub counted : IsCounted packet
  pub questions : AllByRecursion IsQuestion packet.questions
  pub records : AllByRecursion IsRecord (records_of packet)
