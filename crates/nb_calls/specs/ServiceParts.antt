-- What the calls that read the parts of RDATA of port 137 answer (RFC 1002 sections 4.2.1.3, 4.2.13 and 4.2.18), and the call that
-- reads many items, each with the name that is the RDATA of a record of type NS.
use Rattle.std.specs.Prelude.{◌≡◌, ◌⊎◌, ℕ, ◌+◌, nat_le, List, length, take, Option, Some, None, Result, Ok, Err, if◌then◌else◌, ◌<◌, min, [], ◌∷◌, ◌++◌, drop}
use Rattle.nb_calls.specs.Common.{w32, from_be_bytes, slice_get, Followed, spelling, NameAt, AddressEntry, ServiceFault, of_bytes, DomainFails, AreEntries, IsStatus, entries_of_data, status_of_data, NS, NbtServiceItem}
use Rattle.nb_service.specs.declared.views.NodeName.{NodeName}
use Rattle.nb_service.specs.declared.views.TheConstants.{UNIT_ID_LENGTH}
use Rattle.nb_calls.specs.declared.service_parts.NbtServiceAddress.{NbtServiceAddress}
use Rattle.nb_calls.specs.declared.service_parts.NbtServiceNode.{NbtServiceNode}
use Rattle.nb_calls.specs.declared.service_parts.NbtServiceUnit.{NbtServiceUnit}
use Rattle.nb_calls.specs.declared.statuses.TheConstants as statuses
use Rattle.nb_calls.specs.Statuses.{Refusal, Fault, FaultAt, service_refusal}
use Rattle.nb_calls.specs.declared.service_entries.NbtServiceEntry.{NbtServiceEntry}
use Rattle.nb_calls.specs.declared.service_entries.TheConstants.{MOST_ITEMS}
use Rattle.nb_calls.specs.Names.{in_place}
use Rattle.nb_calls.specs.Outputs.{at_refused, refused_status}
use Rattle.nb_calls.specs.Services.{ReadsItem}

-- Chosen P here other answer: the one is answered where P holds, and the other where it doesn't
abbrev pub Chosen : {A : Type 0} → Type 0 → Result A Refusal → Result A Refusal → Result A Refusal → Type 0
Chosen P here other answer = (P × (answer ≡ here)) ⊎ ((¬ P) × (answer ≡ other))

-- one_part numbers count found: what is answered of the part that was found, or that there are only so many
abbrev pub one_part : {A B : Type 0} → (A → B) → ℕ → Option A → Result B Refusal
one_part numbers count (Some part) = Ok (numbers part)
one_part numbers count None = Err (FaultAt statuses.NO_PART count)

-- part_answer numbers parts number: what is answered of the part of this number, counted from 0
abbrev pub part_answer : {A B : Type 0} → (A → B) → List A → ℕ → Result B Refusal
part_answer numbers parts number = one_part numbers (length parts) (slice_get parts number)

-- the fields of an entry, with its address as one number
abbrev pub address_numbers : AddressEntry → NbtServiceAddress
address_numbers entry = record { address = from_be_bytes w32 entry.address; flags = entry.flags }

-- ReadsAddress kind bytes number answer: this is answered of the entry of this number of RDATA of this type
abbrev pub ReadsAddress : ℕ → List ℕ → ℕ → Result NbtServiceAddress Refusal → Type 0
ReadsAddress kind bytes number =
    Chosen (AreEntries kind bytes) (part_answer address_numbers (entries_of_data (of_bytes bytes)) number) (Err (Fault statuses.OTHER_RDATA))

-- the fields of one of a node's names
abbrev pub node_numbers : NodeName → NbtServiceNode
node_numbers name = record { flags = name.flags; name = name.bytes }

-- HasStatusParts kind bytes: RDATA of this type and these bytes is a node's status
abbrev pub HasStatusParts : ℕ → List ℕ → Type 0
HasStatusParts kind bytes = (count : ℕ) × (rest : List ℕ) × IsStatus kind bytes count rest

-- ReadsNode kind bytes number answer: this is answered of the name of this number of RDATA of this type
abbrev pub ReadsNode : ℕ → List ℕ → ℕ → Result NbtServiceNode Refusal → Type 0
ReadsNode kind bytes number =
    Chosen (HasStatusParts kind bytes) (part_answer node_numbers (status_of_data (of_bytes bytes)).names number)
    (Err (Fault statuses.OTHER_RDATA))

-- unit_answer statistics size: the first six bytes of the statistics, or that RDATA of so many bytes ends before
abbrev pub unit_answer : List ℕ → ℕ → Result NbtServiceUnit Refusal
unit_answer statistics size =
    if nat_le UNIT_ID_LENGTH (length statistics) then Ok (record { bytes = take UNIT_ID_LENGTH statistics })
    else Err (FaultAt statuses.TRUNCATED size)

-- ReadsUnit kind bytes answer: this is answered of UNIT_ID of RDATA of this type
abbrev pub ReadsUnit : ℕ → List ℕ → Result NbtServiceUnit Refusal → Type 0
ReadsUnit kind bytes =
    Chosen (HasStatusParts kind bytes) (unit_answer (status_of_data (of_bytes bytes)).statistics (length bytes))
    (Err (Fault statuses.OTHER_RDATA))

-- what is answered where labels are read so: their spelling, or why none are
abbrev pub spelled_answer : Result (List (List ℕ)) Refusal → Result (List ℕ) Refusal
spelled_answer (Ok labels) = Ok (spelling labels)
spelled_answer (Err refusal) = Err refusal

-- ReadsDomain payload at size answer: the `size` bytes at this offset of the payload are a domain name, whose spelling is answered,
-- or they are none, and this is the first fault
abbrev pub ReadsDomain : List ℕ → ℕ → ℕ → Result (List ℕ) Refusal → Type 0
ReadsDomain payload at size (Ok bytes) =
    (labels : List (List ℕ)) × NameAt payload Followed at labels (at + size) × (bytes ≡ spelling labels)
ReadsDomain payload at size (Err refusal) =
    (fault : ServiceFault) × DomainFails payload at size fault × (refusal ≡ service_refusal fault)

-- ---- one item, and the name in its RDATA

-- whether it is a record of type NS; a question is in section 0, and has no RDATA
abbrev pub IsServer : NbtServiceItem → Type 0
IsServer item = (0 < item.section) × (item.kind ≡ NS)

-- ReadsServer payload item answer: the RDATA of the item is a name, whose spelling is answered, or it is of another type
abbrev pub ReadsServer : List ℕ → NbtServiceItem → Result (List ℕ) Refusal → Type 0
ReadsServer payload item answer =
    (IsServer item × ReadsDomain payload item.contents item.contents_length answer)
    ⊎ ((¬ IsServer item) × (answer ≡ Err (Fault statuses.OTHER_RDATA)))

-- entry_numbers item answer: an item, and the name that is answered of its RDATA, if one is
abbrev pub entry_numbers : NbtServiceItem → Result (List ℕ) Refusal → NbtServiceEntry
entry_numbers item (Ok spelled) = record { item = item; server_length = length spelled; server = in_place spelled }
entry_numbers item (Err refusal) = record { item = item; server_length = 0; server = in_place [] }

-- IsEntry payload item entry: an item of the payload, with the name in its RDATA
abbrev pub IsEntry : List ℕ → NbtServiceItem → NbtServiceEntry → Type 0
IsEntry payload item entry =
    (answer : Result (List ℕ) Refusal) × ReadsServer payload item answer × (entry ≡ entry_numbers item answer)

-- ReadsEntry payload number at answer: this is answered of the item of this number at this offset, with the name in its RDATA
abbrev pub ReadsEntry : List ℕ → ℕ → ℕ → Result NbtServiceEntry Refusal → Type 0
ReadsEntry payload number at (Ok entry) =
    (item : NbtServiceItem) × ReadsItem payload number at (Ok item) × IsEntry payload item entry
ReadsEntry payload number at (Err refusal) = ReadsItem payload number at (Err refusal)

-- ---- many

-- Run payload number place entries at: these items stand one after another from this number and this offset on, and end there
pub data Run (payload : List ℕ) (number place : ℕ) : List NbtServiceEntry → ℕ → Type 0 where
  begins : Run payload number place [] place
  goes_on : {entries : List NbtServiceEntry} {at : ℕ} (entry : NbtServiceEntry) → Run payload number place entries at
      → ReadsEntry payload (number + length entries) at (Ok entry) → Run payload number place (entries ++ entry ∷ []) entry.item.next

-- for how many items there is room: no packet has more than the most
abbrev pub room_of : List NbtServiceEntry → ℕ
room_of entries = min (length entries) MOST_ITEMS

-- Ends payload number room count at: so many items are as many as there is room for, or the next one is refused
abbrev pub Ends : List ℕ → ℕ → ℕ → ℕ → ℕ → Type 0
Ends payload number room count at =
    (count ≡ room)
    ⊎ ((0 < count) × (count < room) × (refusal : Refusal) × ReadsEntry payload (number + count) at (Err refusal))

-- ReadsEntries payload number place room answer: these items are answered, as many as stand and as there is room for; or why the
-- first doesn't stand
abbrev pub ReadsEntries : List ℕ → ℕ → ℕ → ℕ → Result (List NbtServiceEntry) Refusal → Type 0
ReadsEntries payload number place room (Ok entries) =
    (at : ℕ) × Run payload number place entries at × Ends payload number room (length entries) at
ReadsEntries payload number place room (Err refusal) = (0 < room) × ReadsEntry payload number place (Err refusal)

-- ---- what is done to an array

-- FilledFront Says old new result: what is said stands at the front, and how many they are; or is this refusal, of which all is
-- as it was
abbrev pub FilledFront : {A : Type 0} → (Result (List A) Refusal → Type 0) → List A → List A → Result ℕ Refusal → Type 0
FilledFront {A} Says old new (Ok count) =
    (values : List A) × Says (Ok values) × (new ≡ values ++ drop (length values) old) × (count ≡ length values)
FilledFront Says old new (Err refusal) = Says (Err refusal) × (new ≡ old)

-- Fronted answer old new used used' at at' status: a call with this answer leaves the array, how many it filled in and the place
-- so, and has this status
abbrev pub Fronted : {A : Type 0} → Result (List A) Refusal → List A → List A → ℕ → ℕ → ℕ → ℕ → ℕ → Type 0
Fronted (Ok values) old new used used' at at' status =
    (new ≡ values ++ drop (length values) old) × (used' ≡ length values) × (at' ≡ at) × (status ≡ statuses.DONE)
Fronted (Err refusal) old new used used' at at' status =
    (new ≡ old) × (used' ≡ used) × (at' ≡ at_refused refusal at) × (status ≡ refused_status refusal)

-- FillsFront Says old new used used' at at' status: something that is said is answered, and what was lent is left so
abbrev pub FillsFront : {A : Type 0} → (Result (List A) Refusal → Type 0) → List A → List A → ℕ → ℕ → ℕ → ℕ → ℕ → Type 0
FillsFront {A} Says old new used used' at at' status =
    (answer : Result (List A) Refusal) × Says answer × Fronted answer old new used used' at at' status
