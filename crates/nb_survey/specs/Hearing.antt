-- What is heard of the payload of a packet of port 137: of the items that stand whole, and of the front of the first one that
-- doesn't (RFC 1002 sections 4.2.1 to 4.2.18; our choice where they are cut).
use Rattle.std.specs.Prelude.{◌≡◌, ◌==◌, ◌&&◌, ℕ, ◌+◌, ◌*◌, ◌<◌, nat_lt, Bool, false, not, List, [], ◌∷◌, length, map, filter_map, Option, Some, None, if◌then◌else◌}
use Rattle.std.specs.Int.{w16}
use Rattle.std.specs.List.{flat_map}
use Rattle.std.specs.Option.{option_or}
use Rattle.nb_streams.specs.Places.{NumberAt}
use Rattle.nb_names.specs.declared.fault.NameFault.{NameFault}
use Rattle.nb_names.specs.declared.reading.Pointers.TheVariants.{Followed}
use Rattle.nb_names.specs.FirstLevel.{letters}
use Rattle.nb_names.specs.Labels.{NameAt}
use Rattle.nb_names.specs.NameFaults.{FaultAt}
use Rattle.nb_names.specs.NameText.{are_letters}
use Rattle.nb_service.specs.declared.limits.TheConstants.{HEADER_LENGTH}
use Rattle.nb_service.specs.declared.views.AddressEntry.{AddressEntry}
use Rattle.nb_service.specs.declared.views.NodeName.{NodeName}
use Rattle.nb_service.specs.Header.{PacketHeader, opcode_of}
use Rattle.nb_service.specs.Items.{PacketItem, asked, told, HasItems}
use Rattle.nb_service.specs.Record.{ResourceData, of_bytes, of_domain, ResourceRecord}
use Rattle.nb_service.specs.ServiceFaults.{item_count}
use Rattle.nb_service.specs.Views.{entries_in, status_in}
use Rattle.nb_survey.specs.declared.heard.Frame.{Frame}
use Rattle.nb_survey.specs.declared.heard.Heard.{Heard}
use Rattle.nb_survey.specs.declared.heard.Listed.{Listed}
use Rattle.nb_survey.specs.Places.{same_name}

-- ---- the first item

-- IsFirst payload header name kind: the name of the first item, a question or else a record, and its type, as far as they stand
pub data IsFirst (payload : List ℕ) (header : PacketHeader) : Option (List (List ℕ)) → Option ℕ → Type 0 where
  no_item : item_count header ≡ 0 → IsFirst payload header None None
  no_name : (fault : NameFault) → 0 < item_count header → FaultAt payload Followed HEADER_LENGTH fault → IsFirst payload header None None
  named : (name : List (List ℕ)) (after : ℕ) → 0 < item_count header → NameAt payload Followed HEADER_LENGTH name after
      → length payload < after + 2 → IsFirst payload header (Some name) None
  typed : (name : List (List ℕ)) (after kind : ℕ) → 0 < item_count header → NameAt payload Followed HEADER_LENGTH name after
      → NumberAt payload after w16 kind → IsFirst payload header (Some name) (Some kind)

-- ---- records

-- the record that an item is
abbrev pub record_in : PacketItem → Option ResourceRecord
record_in (asked question) = None
record_in (told section entry) = Some entry

-- the records among items, in order
abbrev pub records_in : List PacketItem → List ResourceRecord
records_in = filter_map record_in

-- first_of f items: what the first of these has that has something
abbrev pub first_of : {A B : Type 0} → (A → Option B) → List A → Option B
first_of f [] = None
first_of f (item ∷ items) = option_or (f item) (first_of f items)

-- is_named name entry: a record is about this name
abbrev pub is_named : Option (List (List ℕ)) → ResourceRecord → Bool
is_named (Some name) entry = same_name entry.name name
is_named None entry = false

-- own_entries name entry: the NB entries of a record about this name
abbrev pub own_entries : Option (List (List ℕ)) → ResourceRecord → List AddressEntry
own_entries name entry = if is_named name entry then entries_in entry else []

-- own_ttl name entry: the TTL of a record about this name that has NB entries
abbrev pub own_ttl : Option (List (List ℕ)) → ResourceRecord → Option ℕ
own_ttl name entry = if length (own_entries name entry) == 0 then None else Some entry.ttl

-- the operation of a flag word that RDATA begins with
abbrev pub operation_of : ResourceData → Option ℕ
operation_of (of_bytes []) = None
operation_of (of_bytes (high ∷ [])) = None
operation_of (of_bytes (high ∷ low ∷ rest)) = Some (opcode_of (high * 256 + low))
operation_of (of_domain labels) = None

-- the same of a record's RDATA
abbrev pub operation_in : ResourceRecord → Option ℕ
operation_in entry = operation_of entry.rdata

-- the scope of labels, if they are a NetBIOS name's; others have none (our choice)
abbrev pub scope_of : List (List ℕ) → List (List ℕ)
scope_of [] = []
scope_of (first ∷ rest) = if are_letters first then rest else []

-- listed_of scope name: one of a node's names, in this scope
abbrev pub listed_of : List (List ℕ) → NodeName → Listed
listed_of scope name = record { name = letters name.bytes ∷ scope; flags = name.flags }

-- the names of a node status, in the scope of its RR_NAME
abbrev pub listed_in : ResourceRecord → List Listed
listed_in entry = map (listed_of (scope_of entry.name)) (status_in entry).names

-- ---- packets

-- IsHeard frame is_cut payload heard: this is heard of the payload of a frame, which has less of it than was sent if it is cut
pub record IsHeard (frame : Frame) (is_cut : Bool) (payload : List ℕ) (heard : Heard) : Type 0 where
  pub header : PacketHeader
  pub items : List PacketItem
  pub next : ℕ
  pub stands : HasItems payload header items next
  pub first : IsFirst payload header heard.name heard.kind
  pub flags : heard.flags ≡ header.word
  pub id : heard.facts.id ≡ header.id
  pub came : heard.facts.frame ≡ frame
  pub malformed : heard.facts.is_malformed ≡ (not is_cut && nat_lt (length items) (item_count header))
  pub ttl : heard.facts.ttl ≡ first_of (own_ttl heard.name) (records_in items)
  pub entries : heard.entries.items ≡ flat_map (own_entries heard.name) (records_in items)
  pub listed : heard.listed.items ≡ flat_map listed_in (records_in items)
  pub waits_for : heard.waits_for ≡ first_of operation_in (records_in items)
