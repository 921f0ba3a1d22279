-- What the call that writes responses of port 137 answers: packets with one answer, of class IN, and nothing else (RFC 1002
-- sections 4.2.5 to 4.2.18, all but 4.2.8 and 4.2.15). RDATA of type NS is a domain name (section 4.2.1.3), here without
-- pointers; places count from the front of its bytes.
use Rattle.std.specs.Prelude.{◌≡◌, ◌≢◌, ◌<◌, ◌≤◌, ℕ, List, length, Result, Ok, Err, ◌==◌, nat_lt, if◌then◌else◌}
use Rattle.nb_calls.specs.Common.{Refused, TextFault, NameAt, NetbiosName, labels_of_name, IsText, IsFaultOf, NS, MAX_RDATA, ResourceData, ResourceRecord, of_bytes, of_domain, record_of, one_answer, query_packet, status_packet, registration_packet, refresh_packet, release_packet, Answered, LONG_DATA, NO_ROLE, UNKNOWN_REQUEST, w32, to_be_bytes, AddressEntry, ServicePacket, entry_bytes, Asked}
use Rattle.nb_names.specs.NameFaults.{FaultAt as NameFaultAt}
use Rattle.nb_service.specs.declared.classes.TheConstants.{IN}
use Rattle.nb_service.specs.Encoding.{packet_bytes}
use Rattle.nb_calls.specs.Statuses.{Refusal, Fault, text_refusal}
use Rattle.nb_calls.specs.Names.{IsRead, IsWhole}
use Rattle.nb_calls.specs.Outputs.{OrMemory}

-- IsDomain bytes read: the bytes are the spelling of a domain name with these labels, or why they aren't one
abbrev pub IsDomain : List ℕ → Result (List (List ℕ)) Refusal → Type 0
IsDomain bytes = IsWhole (NameAt bytes Refused 0) (NameFaultAt bytes Refused 0) bytes

-- the RDATA of type NS, where the name is read so
abbrev pub domain_data : Result (List (List ℕ)) Refusal → Result ResourceData Refusal
domain_data (Ok labels) = Ok (of_domain labels)
domain_data (Err refusal) = Err refusal

-- IsRdata type bytes rdata: the bytes are this RDATA of the type, or why they are none
pub data IsRdata (type : ℕ) (bytes : List ℕ) : Result ResourceData Refusal → Type 0 where
  plain : type ≢ NS → length bytes ≤ MAX_RDATA → IsRdata type bytes (Ok (of_bytes bytes))
  too_long : type ≢ NS → MAX_RDATA < length bytes → IsRdata type bytes (Err (Fault LONG_DATA))
  domain : (read : Result (List (List ℕ)) Refusal) → type ≡ NS → IsDomain bytes read → IsRdata type bytes (domain_data read)

-- answer_of answered name rdata: the answer about a name with this RDATA
abbrev pub answer_of : Answered → NetbiosName → ResourceData → ResourceRecord
answer_of answered name = record_of (labels_of_name name) answered.kind IN answered.time_to_live

-- response_of answered entry: the bytes of the response with this answer
abbrev pub response_of : Answered → ResourceRecord → List ℕ
response_of answered entry = packet_bytes (one_answer answered.identifier answered.word entry)

-- response_answer answered name rdata: what is answered about a name, where RDATA is read so
abbrev pub response_answer : Answered → NetbiosName → Result ResourceData Refusal → Result (List ℕ) Refusal
response_answer answered name (Ok rdata) = Ok (response_of answered (answer_of answered name rdata))
response_answer answered name (Err refusal) = Err refusal

-- Responds answered text bytes answer: this is answered where the name has this text, and RDATA these bytes
pub data Responds (answered : Answered) (text bytes : List ℕ) : Result (List ℕ) Refusal → Type 0 where
  no_name_text : (fault : TextFault) → IsFaultOf text fault → Responds answered text bytes (Err (text_refusal NO_ROLE fault))
  named : (name : NetbiosName) (rdata : Result ResourceData Refusal) (answer : Result (List ℕ) Refusal) → IsText name text
      → IsRdata answered.kind bytes rdata → OrMemory (response_answer answered name rdata) answer
      → Responds answered text bytes answer

-- ---- what the call that writes requests of port 137 answers (RFC 1002 sections 4.2.2, 4.2.4, 4.2.9, 4.2.12 and
-- 4.2.17)

-- the address that is asked for, with its flags
abbrev pub entry_of : Asked → AddressEntry
entry_of asked = record { flags = asked.nb_flags; address = to_be_bytes w32 asked.address }

-- requested asked name entry: the request about a name, with these bytes of an address; a number over 3 is a release's
abbrev pub requested : Asked → NetbiosName → List ℕ → ServicePacket
requested asked name entry =
    if asked.request == 0 then query_packet asked.identifier name asked.broadcast
    else if asked.request == 1 then status_packet asked.identifier name asked.broadcast
    else if asked.request == 2 then registration_packet asked.identifier name asked.broadcast asked.time_to_live entry
    else if asked.request == 3 then refresh_packet asked.identifier name asked.broadcast asked.time_to_live entry
    else release_packet asked.identifier name asked.broadcast entry

-- named_answer asked read: what is answered where the name's text is read so
abbrev pub named_answer : Asked → Result NetbiosName TextFault → Result (List ℕ) Refusal
named_answer asked (Ok name) = Ok (packet_bytes (requested asked name (entry_bytes (entry_of asked))))
named_answer asked (Err fault) = Err (text_refusal NO_ROLE fault)

-- the same, where no request has a number over 4
abbrev pub request_answer : Asked → Result NetbiosName TextFault → Result (List ℕ) Refusal
request_answer asked read = if nat_lt 4 asked.request then Err (Fault UNKNOWN_REQUEST) else named_answer asked read

-- Requests asked text answer: this is answered where the name has this text
abbrev pub Requests : Asked → List ℕ → Result (List ℕ) Refusal → Type 0
Requests asked text answer =
    (read : Result NetbiosName TextFault) × IsRead text read × OrMemory (request_answer asked read) answer
