-- What the RDATA of records of two types says: NB_FLAGS and addresses (RFC 1002 section 4.2.13), and the
-- names of a node (RFC 1002 section 4.2.18). Numbers are big-endian, and lengths are in bytes.
--
-- Our choice: of what follows the names of a node, any length is taken for its statistics.
use Rattle.std.proofs.Common.{◌≡◌, ◌==◌, ℕ, ◌*◌, ◌/◌, ◌%◌, ◌<◌, ◌≤◌, nat_le, List, [], ◌∷◌, ◌++◌, length, take, drop, if◌then◌else◌, refl, ap, ◌∙◌, arith, length-append, length-drop}
use Rattle.std.proofs.lemmas.Bool.{le-leb}
use Rattle.std.proofs.lemmas.List.{take-append-drop, length-take-le, take_at, drop_at}
use Rattle.std.proofs.lemmas.Nat.{be_bytes_2}
use Rattle.std.specs.Int.{w16, to_be_bytes, from_be_bytes}
use Rattle.std.specs.List.{flat_map, AllByRecursion}
pub use Rattle.nb_service.specs.Parts.{parts}
use Rattle.nb_service.specs.Parts.{AreSmall, AreWritten, length-flat, parts-flat, small_drop, small_take}
use Rattle.nb_service.specs.declared.kinds.TheConstants.{NB, NBSTAT}
use Rattle.nb_service.specs.declared.views.TheConstants.{ENTRY_LENGTH, NODE_NAME_LENGTH}
use Rattle.nb_service.specs.declared.views.AddressEntry.{AddressEntry}
use Rattle.nb_service.specs.declared.views.NodeName.{NodeName}
use Rattle.nb_service.specs.Record.{ResourceData, of_bytes, of_domain, ResourceRecord}

-- the bytes of an entry: NB_FLAGS 2, NB_ADDRESS 4
abbrev pub entry_bytes : AddressEntry → List ℕ
entry_bytes entry = to_be_bytes w16 entry.flags ++ entry.address

-- HasEntries entry bytes: the record is of type NB, and its RDATA is these bytes, as many as whole entries
-- have
pub record HasEntries (entry : ResourceRecord) (bytes : List ℕ) : Type 0 where
  pub kind : entry.kind ≡ NB
  pub rdata : entry.rdata ≡ of_bytes bytes
  pub whole : length bytes % ENTRY_LENGTH ≡ 0

-- AreEntries kind bytes: RDATA of this type and these bytes is entries: its type is NB, and it has whole ones alone
abbrev pub AreEntries : ℕ → List ℕ → Type 0
AreEntries kind bytes = (kind ≡ NB) × (length bytes % ENTRY_LENGTH ≡ 0)

-- the bytes of one of a node's names: its sixteen bytes, then NAME_FLAGS 2
abbrev pub node_name_bytes : NodeName → List ℕ
node_name_bytes name = name.bytes ++ to_be_bytes w16 name.flags

-- a node's names, and its statistics
pub record StatusParts : Type 0 where
  pub names : List NodeName
  pub statistics : List ℕ

-- the bytes that follow NUM_NAMES in a node's status: the names, then the statistics
abbrev pub after_count : StatusParts → List ℕ
after_count status = flat_map node_name_bytes status.names ++ status.statistics

-- HasStatus entry count rest: the record is of type NBSTAT, and its RDATA is NUM_NAMES, which is the
-- count, and then these bytes, enough of them for so many names
pub record HasStatus (entry : ResourceRecord) (count : ℕ) (rest : List ℕ) : Type 0 where
  pub kind : entry.kind ≡ NBSTAT
  pub rdata : entry.rdata ≡ of_bytes (count ∷ rest)
  pub room : NODE_NAME_LENGTH * count ≤ length rest

-- IsStatus kind bytes count rest: RDATA of this type and these bytes is a node's status: its type is NBSTAT, and its bytes are
-- NUM_NAMES, which is the count, and then these, enough of them for so many names
abbrev pub IsStatus : ℕ → List ℕ → ℕ → List ℕ → Type 0
IsStatus kind bytes count rest =
    (kind ≡ NBSTAT) × (bytes ≡ count ∷ rest) × (NODE_NAME_LENGTH * count ≤ length rest)

-- ---- the views as values

-- the entry of six bytes
abbrev pub entry_of : List ℕ → AddressEntry
entry_of bytes = record { flags = from_be_bytes w16 (take 2 bytes); address = drop 2 bytes }

-- the entries that the bytes have
abbrev pub entries_of : List ℕ → List AddressEntry
entries_of bytes = parts ENTRY_LENGTH entry_of (length bytes / ENTRY_LENGTH) bytes

-- the name of eighteen bytes
abbrev pub node_name_of : List ℕ → NodeName
node_name_of bytes = record { bytes = take 16 bytes; flags = from_be_bytes w16 (drop 16 bytes) }

-- the names that the bytes have
abbrev pub node_names_of : List ℕ → List NodeName
node_names_of bytes = parts NODE_NAME_LENGTH node_name_of (length bytes / NODE_NAME_LENGTH) bytes

-- the entries of RDATA of type NB: none where its bytes aren't whole entries
abbrev pub entries_of_data : ResourceData → List AddressEntry
entries_of_data (of_bytes bytes) = if length bytes % ENTRY_LENGTH == 0 then entries_of bytes else []
entries_of_data (of_domain labels) = []

-- the address entries of a record: none where it isn't of type NB
abbrev pub entries_in : ResourceRecord → List AddressEntry
entries_in entry = if entry.kind == NB then entries_of_data entry.rdata else []

-- neither names nor statistics
abbrev pub no_status : StatusParts
no_status = record { names = []; statistics = [] }

-- status_of_size size rest: the status whose names have so many bytes, at the front of these
abbrev pub status_of_size : ℕ → List ℕ → StatusParts
status_of_size size rest =
    if nat_le size (length rest) then record { names = node_names_of (take size rest); statistics = drop size rest } else no_status

-- the status of RDATA of type NBSTAT: NUM_NAMES, and then at least so many names
abbrev pub status_of_data : ResourceData → StatusParts
status_of_data (of_bytes []) = no_status
status_of_data (of_bytes (count ∷ rest)) = status_of_size (NODE_NAME_LENGTH * count) rest
status_of_data (of_domain labels) = no_status

-- the node status of a record: without names and statistics where it isn't of type NBSTAT
abbrev pub status_in : ResourceRecord → StatusParts
status_in entry = if entry.kind == NBSTAT then status_of_data entry.rdata else no_status

-- ---- lemmas of entries

pub entry_some : 0 < ENTRY_LENGTH
entry_some = omega arith

pub entry_given_back : (part : List ℕ) → length part ≡ 6 → AreSmall part → entry_bytes (entry_of part) ≡ part
entry_given_back part long s =
    let flags : to_be_bytes w16 (from_be_bytes w16 (take 2 part)) ≡ take 2 part = be_bytes_2 (take 2 part) _ (length-take-le 2 part (omega arith)) (small_take 2 part s) refl in
    ap (λ (xs : List ℕ). xs ++ drop 2 part) flags ∙ take-append-drop 2 part

-- the flags have sixteen bits, and the address four bytes
abbrev IsEntry : AddressEntry → Type 0
IsEntry e = (e.flags < 65536) × (length e.address ≡ 4)

abbrev six : AddressEntry → List ℕ
six e = e.flags / 256 ∷ e.flags % 256 ∷ e.address

entry_read : AreWritten 6 entry_of six IsEntry
entry_read e is =
    let fits = is.0 in
    let long = is.1 in
    let flags : from_be_bytes w16 (e.flags / 256 ∷ e.flags % 256 ∷ []) ≡ e.flags = omega (arith, fits) in
    (omega (arith, long), λ i. record { flags = flags i; address = e.address })

pub entries_read : (entry : ResourceRecord) (entries : List AddressEntry) → AllByRecursion IsEntry entries → entry.kind ≡ 32
    → entry.rdata ≡ of_bytes (flat_map six entries) → entries_in entry ≡ entries
entries_read entry entries each kind rdata =
    let long = length-flat 6 entry_of six IsEntry entries entry_read each in
    let whole : length (flat_map six entries) % 6 ≡ 0 = omega (arith, long) in
    let count : length (flat_map six entries) / 6 ≡ length entries = omega (arith, long) in
    rw (kind, rdata, whole, count) (parts-flat 6 entry_of six IsEntry entries entry_read each)

-- ---- lemmas of the names of a node

pub node_name_some : 0 < NODE_NAME_LENGTH
node_name_some = omega arith

pub node_name_given_back : (part : List ℕ) → length part ≡ 18 → AreSmall part → node_name_bytes (node_name_of part) ≡ part
node_name_given_back part long s =
    let flags : to_be_bytes w16 (from_be_bytes w16 (drop 16 part)) ≡ drop 16 part = be_bytes_2 (drop 16 part) _ (omega (arith, length-drop 16 part)) (small_drop 16 part s) refl in
    ap (λ (xs : List ℕ). take 16 part ++ xs) flags ∙ take-append-drop 16 part

-- sixteen bytes, and flags of sixteen bits
abbrev IsNodeName : NodeName → Type 0
IsNodeName name = (length name.bytes ≡ 16) × (name.flags < 65536)

abbrev eighteen : NodeName → List ℕ
eighteen name = name.bytes ++ name.flags / 256 ∷ name.flags % 256 ∷ []

node_name_read : AreWritten 18 node_name_of eighteen IsNodeName
node_name_read name is =
    let long = is.0 in
    let fits = is.1 in
    let word : List ℕ = name.flags / 256 ∷ name.flags % 256 ∷ [] in
    let flags : from_be_bytes w16 word ≡ name.flags = omega (arith, fits) in
    let front = take_at name.bytes word 16 long in
    let behind = ap (from_be_bytes w16) (drop_at name.bytes word 16 long) ∙ flags in
    (omega (arith, long, length-append name.bytes word), λ i. record { bytes = front i; flags = behind i })

pub status_read : (entry : ResourceRecord) (status : StatusParts) → AllByRecursion IsNodeName status.names → entry.kind ≡ 33
    → entry.rdata ≡ of_bytes (length status.names ∷ (flat_map eighteen status.names ++ status.statistics)) → status_in entry ≡ status
status_read entry status each kind rdata =
    let names : List ℕ = flat_map eighteen status.names in
    let long = length-flat 18 node_name_of eighteen IsNodeName status.names node_name_read each in
    let room = le-leb (18 * length status.names) (length (names ++ status.statistics))
    (omega (arith, long, length-append names status.statistics)) in
    let front = take_at names status.statistics (18 * length status.names) long in
    let behind = drop_at names status.statistics (18 * length status.names) long in
    let count : length names / 18 ≡ length status.names = omega (arith, long) in
    let read = parts-flat 18 node_name_of eighteen IsNodeName status.names node_name_read each in
    rw (kind, rdata, room, front, behind, count) (λ i. record { names = read i; statistics = status.statistics })
