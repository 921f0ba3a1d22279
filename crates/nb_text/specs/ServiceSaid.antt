-- What is said of a packet of port 137 (our choice): the packets are those of RFC 1002 section 4.2.
use Rattle.std.specs.Prelude.{◌≡◌, ⊤, ℕ, nat_lt, ◌-◌, ◌==◌, min, Bool, false, List, [], ◌∷◌, ◌++◌, length, map, take, codes, Option, Some, None, if◌then◌else◌}
use Rattle.std.specs.Fmt.{decimal}
use Rattle.std.specs.List.{flat_map}
use Rattle.nb_streams.specs.Addresses.{address_text}
use Rattle.nb_streams.specs.Hexadecimal.{digits_text}
use Rattle.nb_names.specs.NameText.{labels_written, written}
use Rattle.nb_names.specs.declared.reading.Pointers.TheVariants.{Followed}
use Rattle.nb_names.specs.Skipped.{IsSkipped}
use Rattle.nb_service.specs.declared.fault.ServiceFault.{ServiceFault}
use Rattle.nb_service.specs.declared.fault.ServiceFault.TheVariants as faults
use Rattle.nb_service.specs.declared.kinds.TheConstants.{NBSTAT}
use Rattle.nb_service.specs.declared.record.Question.{Question}
use Rattle.nb_service.specs.declared.seen.Seen.{Seen}
use Rattle.nb_service.specs.FaultTexts.{service_fault_place, service_fault_subject, service_fault_words}
use Rattle.nb_service.specs.declared.flags.TheConstants.NodeFlags.{G}
use Rattle.nb_service.specs.Header.{node_bits, opcode_of, rcode_of}
use Rattle.nb_service.specs.Packet.{ServicePacket, records_of}
use Rattle.nb_service.specs.Record.{ResourceData, of_bytes, of_domain, ResourceRecord}
use Rattle.nb_text.specs.declared.brief.form.Ending.{Ending}
use Rattle.nb_text.specs.declared.brief.form.Ending.TheVariants as endings
use Rattle.nb_text.specs.declared.brief.gist.Few.{Few}
use Rattle.nb_text.specs.declared.brief.gist.Listed.{Listed}
use Rattle.nb_text.specs.declared.brief.gist.Listed.TheVariants as items
use Rattle.nb_text.specs.declared.brief.gist.Gist.{Gist}
use Rattle.nb_text.specs.declared.brief.gist.TheConstants.{MOST_LISTED}
use Rattle.nb_text.specs.declared.words.TheConstants.{FMT_ERR, SRV_ERR, NAM_ERR, IMP_ERR, RFS_ERR, ACT_ERR, CFT_ERR}
use Rattle.nb_text.specs.Forms.{form_of, is_type}
use Rattle.nb_text.specs.Said.{commas, counts_in, refused_said}
use Rattle.nb_text.specs.Views.{flags_by, listed_by, units_by}
use Rattle.nb_text.specs.Words.{is_set}

-- the first of a list
abbrev pub first : {A : Type 0} → List A → Option A
first [] = None
first (x ∷ xs) = Some x

-- ---- whom a packet is about

-- a name, and the type that is asked or told of it
pub record About : Type 0 where
  pub name : List (List ℕ)
  pub kind : ℕ

-- the first question, or else the first record
abbrev pub about_first : List Question → List ResourceRecord → Option About
about_first (question ∷ questions) records = Some (record { name = question.name; kind = question.kind })
about_first [] (entry ∷ records) = Some (record { name = entry.name; kind = entry.kind })
about_first [] [] = None

-- of a packet
abbrev pub about_of : ServicePacket → Option About
about_of packet = about_first packet.questions (records_of packet)

-- IsAbout packet about seen: that is what is seen in the bytes of what the packet is about
abbrev pub IsAbout : List ℕ → Option About → Option Seen → Type 0
IsAbout packet None None = ⊤
IsAbout packet None (Some seen) = ⊥
IsAbout packet (Some about) None = ⊥
IsAbout packet (Some about) (Some seen) = IsSkipped packet Followed seen.at about.name seen.name × (seen.fields.kind ≡ about.kind)

-- its type
abbrev pub type_of : Option About → Option ℕ
type_of None = None
type_of (Some about) = Some about.kind

-- its name
abbrev pub name_said : Option About → List ℕ
name_said None = codes "no name"
name_said (Some about) = labels_written about.name

-- ---- what the records tell

-- the name server in it
abbrev pub server_in : ResourceData → List (List (List ℕ))
server_in (of_bytes bytes) = []
server_in (of_domain labels) = labels ∷ []

-- how many of what is listed stand in a phrase
abbrev pub most_listed : ℕ
most_listed = MOST_LISTED

-- the first of what is listed, and how many there are, up to the largest number
abbrev pub few : List Listed → Few
few listed = record { first = record { items = take most_listed listed }; count = min (length listed) 18446744073709551615 }

-- gist_of status records: how long the first record holds; the first flags, unit and name server in the records; and what they
-- list, where a node's status is asked for or isn't
abbrev pub gist_of : Bool → List ResourceRecord → Gist
gist_of status records = record {
  ttl = first (map (λ entry. entry.ttl) records);
  flags = first (flat_map (λ entry. flags_by entry.kind entry.rdata) records);
  listed = few (flat_map (λ entry. listed_by status entry.kind entry.rdata) records);
  unit = first (flat_map (λ entry. units_by entry.kind entry.rdata) records);
  server = first (flat_map (λ entry. server_in entry.rdata) records);
}

-- ---- parts of phrases

-- one of what is listed
abbrev pub listed_text : Listed → List ℕ
listed_text (items.Address address) = address_text address
listed_text (items.NodeName bytes) = written (record { bytes = bytes; scope = [] })

-- how many more there are of so many than the first ones
abbrev pub more_said : ℕ → List (List ℕ)
more_said count = if nat_lt most_listed count then codes " and " ∷ decimal (count - most_listed) ∷ codes " more" ∷ [] else []

-- the first ones of what is listed, and how many more there are
abbrev pub few_said : Few → List (List ℕ)
few_said listed = commas listed_text listed.first.items ++ more_said listed.count

-- the addresses, or where a node's status is asked for the names in their place
abbrev pub addresses_said : Few → List (List ℕ)
addresses_said listed = if listed.count == 0 then codes "no address" ∷ [] else few_said listed

-- which names a node has
abbrev pub names_said : Few → List (List ℕ)
names_said listed =
    if listed.count == 0 then codes " has no names" ∷ []
    else codes " has " ∷ decimal listed.count ∷ codes " names: " ∷ few_said listed

-- whether the name is a group's: G of the first flags (4.2.13, 4.2.18), the highest bit
abbrev pub is_group : Option ℕ → Bool
is_group None = false
is_group (Some flags) = is_set flags (node_bits G)

-- for how long
abbrev pub time_said : Option ℕ → List (List ℕ)
time_said None = []
time_said (Some ttl) = codes ", for " ∷ decimal ttl ∷ codes " s" ∷ []

-- the unit of a node
abbrev pub unit_said : Option (List ℕ) → List (List ℕ)
unit_said None = []
unit_said (Some unit) = codes ", unit " ∷ digits_text unit ∷ []

-- a name server
abbrev pub server_said : Option (List (List ℕ)) → List ℕ
server_said None = codes "no name"
server_said (Some labels) = labels_written labels

-- what RCODE says (4.2.6, 4.2.11, 4.2.14)
abbrev pub reason_words : ℕ → List ℕ
reason_words rcode =
    if rcode == FMT_ERR then codes "wrong form (FMT_ERR)"
    else if rcode == SRV_ERR then codes "server failure (SRV_ERR)"
    else if rcode == NAM_ERR then codes "no such name (NAM_ERR)"
    else if rcode == IMP_ERR then codes "not supported (IMP_ERR)"
    else if rcode == RFS_ERR then codes "refused by policy (RFS_ERR)"
    else if rcode == ACT_ERR then codes "owned by another node (ACT_ERR)"
    else if rcode == CFT_ERR then codes "in conflict (CFT_ERR)"
    else codes "unknown error"

-- held_said group one told: the addresses, after what is said of a group or of one node
abbrev pub held_said : List ℕ → List ℕ → Gist → List (List ℕ)
held_said group one told = (if is_group told.flags then group else one) ∷ addresses_said told.listed

-- the reason for a negative response
abbrev pub reason_said : ℕ → List (List ℕ)
reason_said word = codes ": " ∷ reason_words (rcode_of word) ∷ []

-- ---- the phrase

-- ending_said ending word told: what stands after the name, of a packet of this flag word whose records tell so much
abbrev pub ending_said : Ending → ℕ → Gist → List (List ℕ)
ending_said endings.Nothing word told = []
ending_said endings.Claim word told = held_said (codes " as a group for ") (codes " for ") told ++ time_said told.ttl
ending_said endings.Holder word told = held_said (codes " as a group for ") (codes " for ") told
ending_said endings.Found word told = held_said (codes " is a group at ") (codes " is at ") told
ending_said endings.Status word told = names_said told.listed ++ unit_said told.unit
ending_said endings.Server word told = codes " is known to " ∷ server_said told.server ∷ codes " at " ∷ addresses_said told.listed
ending_said endings.Place word told = codes " at " ∷ addresses_said told.listed
ending_said endings.NotFound word told = codes " is not found" ∷ reason_said word
ending_said endings.Reason word told = reason_said word
ending_said endings.Time word told = time_said told.ttl
ending_said endings.Operation word told = codes ", operation " ∷ decimal (opcode_of word) ∷ []

-- said_of word about told: what a packet of this flag word is said to be, that is about this, and whose records tell so much
abbrev pub said_of : ℕ → Option About → Gist → List (List ℕ)
said_of word about told =
    let form = form_of word (type_of about) in form.opening ∷ name_said about ∷ ending_said form.ending word told

-- a packet
abbrev pub service_said : ServicePacket → List (List ℕ)
service_said packet =
    let about = about_of packet in said_of packet.word about (gist_of (is_type (type_of about) NBSTAT) (records_of packet))

-- ---- no packet

-- of what the place of a fault is a byte, where it is none of the payload
abbrev pub service_counts_in : ServiceFault → List ℕ
service_counts_in (faults.Truncated at) = []
service_counts_in (faults.Name fault) = counts_in fault
service_counts_in (faults.NameRdata at) = []
service_counts_in faults.NoMemory = []

-- why there is no packet
abbrev pub service_refused_said : ServiceFault → List (List ℕ)
service_refused_said fault =
    refused_said (service_fault_subject fault) (service_fault_words fault) (service_fault_place fault) (service_counts_in fault)
