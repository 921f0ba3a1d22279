-- What the calls on a station do (RFC 1002 section 5.3; the form of what is written is our choice).
use Rattle.std.specs.Prelude.{◌≡◌, ◌==◌, ◌⊎◌, ◌<◌, ◌≤◌, ◌+◌, ℕ, Bool, List, [], ◌∷◌, ◌++◌, length, drop, Contains, Option, Some, None, Result, Ok, Err}
use Rattle.nb_calls.specs.Common.{w32, from_be_bytes, slice_split, TextFault, NetbiosName, DatagramFault, Key, ErrorPacket, Error, DatagramParts, type_of, name_bytes, packet_bytes, TableFault, MemberValue, contents, with_timed, after_clock, Takes}
use Rattle.nb_names.specs.declared.fault.TextFault.TheVariants as texts
use Rattle.nb_table.specs.declared.fault.TableFault.TheVariants as tables
use Rattle.nb_member.specs.declared.limits.TheConstants.{MAX_NAMES}
use Rattle.nb_member.specs.declared.outcome.MemberFault.{MemberFault}
use Rattle.nb_member.specs.declared.outcome.MemberFault.TheVariants.{Packet, Table}
use Rattle.nb_member.specs.declared.outcome.Outcome.{Outcome}
use Rattle.nb_member.specs.declared.outcome.Outcome.TheVariants.{Delivered, Unheard, Kept, Spoilt, Other}
use Rattle.std.specs.FinMap as maps
use denote.RawPtr.{Ptr, null_ptr}
use Rattle.nb_calls.specs.declared.handle.NbtStation.{NbtStation}
use Rattle.nb_calls.specs.declared.statuses.TheConstants as statuses
use Rattle.nb_calls.specs.declared.taken.NbtTaken.{NbtTaken}
use Rattle.nb_calls.specs.declared.taken.TheConstants as outcomes
use Rattle.nb_calls.specs.Handles.{IsHere, IsNone}
use Rattle.nb_calls.specs.Names.{IsRead}
use Rattle.nb_calls.specs.Outputs.{Answers, Lent, LentWith, OrMemory, Reported, Writes, refused_status, at_refused}
use Rattle.nb_calls.specs.Statuses.{Refusal, Memory, Fault, FaultAt, datagram_refusal}

-- ---- the names of a new station

-- whether a byte is a space
abbrev pub is_space : ℕ → Bool
is_space byte = byte == 32

-- the texts that stand in the bytes, with one space between two; none where there are no bytes
abbrev pub texts_in : List ℕ → List (List ℕ)
texts_in [] = []
texts_in (byte ∷ bytes) = slice_split is_space (byte ∷ bytes)

-- bad_name place fault: why the text that begins there is of no name
abbrev pub bad_name : ℕ → TextFault → Refusal
bad_name place (texts.BadText at) = FaultAt statuses.BAD_TEXT (place + at)
bad_name place texts.TooLong = Fault statuses.LONG_TEXT

-- AreNames place held words answer: the names with these texts, of which the first begins at the place and each other
-- one byte behind the one before, are added to those that are held, in order; or the first fault
pub data AreNames : ℕ → List NetbiosName → List (List ℕ) → Result (List NetbiosName) Refusal → Type 0 where
  all : {place : ℕ} {held : List NetbiosName} → AreNames place held [] (Ok held)
  bad : {place : ℕ} {held : List NetbiosName} {word : List ℕ} {words : List (List ℕ)} (fault : TextFault)
      → IsRead word (Err fault) → AreNames place held (word ∷ words) (Err (bad_name place fault))
  present : {place : ℕ} {held : List NetbiosName} {word : List ℕ} {words : List (List ℕ)} (name : NetbiosName)
      → IsRead word (Ok name) → Contains held name
      → AreNames place held (word ∷ words) (Err (FaultAt statuses.NAME_PRESENT place))
  too_many : {place : ℕ} {held : List NetbiosName} {word : List ℕ} {words : List (List ℕ)} (name : NetbiosName)
      → IsRead word (Ok name) → ¬ Contains held name → MAX_NAMES ≤ length held
      → AreNames place held (word ∷ words) (Err (FaultAt statuses.TOO_MANY_NAMES place))
  more : {place : ℕ} {held : List NetbiosName} {word : List ℕ} {words : List (List ℕ)} {answer : Result (List NetbiosName) Refusal}
      (name : NetbiosName) → IsRead word (Ok name) → ¬ Contains held name → length held < MAX_NAMES
      → AreNames (place + length word + 1) (held ++ name ∷ []) words answer → AreNames place held (word ∷ words) answer

-- the first of the texts is a name's
abbrev pub BeginsWithName : List (List ℕ) → Type 0
BeginsWithName [] = ⊥
BeginsWithName (word ∷ words) = (name : NetbiosName) × IsRead word (Ok name)

-- NamesText place held word new result: the text that begins at the place is added to the names that are held, and those
-- after it then stand as they would after it; or it has the first fault, whatever comes after it; or it is a name's, and
-- memory ran out
abbrev pub NamesText : ℕ → List NetbiosName → List ℕ → List NetbiosName → Result Unit Refusal → Type 0
NamesText place held word new (Ok _) =
    BeginsWithName (word ∷ [])
    × ((words : List (List ℕ)) (answer : Result (List NetbiosName) Refusal) → AreNames (place + length word + 1) new words answer
    → AreNames place held (word ∷ words) answer)
NamesText place held word new (Err Memory) = BeginsWithName (word ∷ []) × (new ≡ held)
NamesText place held word new (Err (Fault status)) =
    (words : List (List ℕ)) → AreNames place held (word ∷ words) (Err (Fault status))
NamesText place held word new (Err (FaultAt status at)) =
    (words : List (List ℕ)) → AreNames place held (word ∷ words) (Err (FaultAt status at))

-- Names words answer: these are the names with the texts, in order, or the first fault; memory may run out instead of
-- either, but not where the first text is invalid
abbrev pub Names : List (List ℕ) → Result (List NetbiosName) Refusal → Type 0
Names words (Ok names) = AreNames 0 [] words (Ok names)
Names words (Err Memory) = BeginsWithName words
Names words (Err (Fault status)) = AreNames 0 [] words (Err (Fault status))
Names words (Err (FaultAt status at)) = AreNames 0 [] words (Err (FaultAt status at))

-- IsCreated old new status: a station stands behind the new pointer; or memory ran out, and the pointer is the old one
abbrev pub IsCreated : Ptr → Ptr → ℕ → Type 0
IsCreated old new status =
    ((status ≡ statuses.DONE) × IsHere new) ⊎ ((status ≡ statuses.NO_MEMORY) × (new ≡ old))

-- Creates bytes at at' station status: what the call that makes a station of names with their texts in the bytes answers,
-- and what it leaves of the place and of the pointer: nothing is wrong with the names, and a station stands behind the
-- pointer or memory ran out; or they have a fault. Without a station the pointer is null
pub data Creates (bytes : List ℕ) (at at' : ℕ) (station : Ptr) (status : ℕ) : Type 0 where
  made : (names : List NetbiosName) → Names (texts_in bytes) (Ok names) → at' ≡ at
      → IsCreated null_ptr station status → Creates bytes at at' station status
  refused : (refusal : Refusal) → Names (texts_in bytes) (Err refusal) → at' ≡ at_refused refusal at
      → status ≡ refused_status refusal → IsNone station → Creates bytes at at' station status

-- ---- what became of a payload

-- another packet came
abbrev pub of_other : NbtTaken
of_other = record {
  outcome = outcomes.OTHER;
  address = 0;
  port = 0;
  identifier = 0;
  packet_type = 0;
  source_length = 0;
  destination_length = 0;
  contents_length = 0;
  error_length = 0;
  refusal = 0;
  refused_at = 0;
}

-- of_key outcome k: this became of a fragment of the key k
abbrev pub of_key : ℕ → Key → NbtTaken
of_key outcome k = record of_other { outcome = outcome; address = from_be_bytes w32 k.ip; port = k.port; identifier = k.id }

-- the datagram is handed over
abbrev pub of_delivered : DatagramParts → NbtTaken
of_delivered d = record (of_key outcomes.DELIVERED d.key) {
  packet_type = type_of d.kind;
  source_length = length (name_bytes d.source);
  destination_length = length (name_bytes d.destination);
  contents_length = length d.bytes;
}

-- of_unheard k error: a datagram of the key k isn't heard; the packet to send has so many bytes
abbrev pub of_unheard : Key → ℕ → NbtTaken
of_unheard k size = record (of_key outcomes.UNHEARD k) { error_length = size }

-- of_refused refusal size: the payload is refused so; the packet to send has so many bytes
abbrev pub of_refused : Refusal → ℕ → NbtTaken
of_refused refusal size = record of_other {
  outcome = outcomes.REFUSED;
  error_length = size;
  refusal = refused_status refusal;
  refused_at = at_refused refusal 0;
}

-- the spellings of both names of a datagram, and its data
abbrev pub delivered_bytes : DatagramParts → List ℕ
delivered_bytes d = name_bytes d.source ++ (name_bytes d.destination ++ d.bytes)

-- the bytes of the packet to send, if there is one
abbrev pub error_bytes : Option ErrorPacket → List ℕ
error_bytes None = []
error_bytes (Some error) = packet_bytes (Error error)

-- Fronted bytes old new count: the bytes stand at the front of a buffer, the rest of which is as it was, and are so many
abbrev pub Fronted : List ℕ → List ℕ → List ℕ → ℕ → Type 0
Fronted bytes old new count = (new ≡ bytes ++ drop (length bytes) old) × (count ≡ length bytes)

-- what is reported of each outcome
abbrev pub told_of : Outcome → Reported NbtTaken
told_of (Kept k) = record { numbers = of_key outcomes.KEPT k; bytes = [] }
told_of (Spoilt k) = record { numbers = of_key outcomes.SPOILT k; bytes = [] }
told_of (Delivered d) = record { numbers = of_delivered d; bytes = delivered_bytes d }
told_of (Unheard k error) = record { numbers = of_unheard k (length (error_bytes error)); bytes = error_bytes error }
told_of Other = record { numbers = of_other; bytes = [] }

-- told_refused fault error: what is reported of a payload that begins with no packet
abbrev pub told_refused : DatagramFault → Option ErrorPacket → Reported NbtTaken
told_refused fault error =
    record { numbers = of_refused (datagram_refusal fault) (length (error_bytes error)); bytes = error_bytes error }

-- why a table doesn't take in a fragment, or another table
abbrev pub table_refusal : TableFault → Refusal
table_refusal tables.MisplacedFirst = Fault statuses.MISPLACED_FIRST
table_refusal tables.TooLong = Fault statuses.LONG
table_refusal (tables.FullSource key) = Fault statuses.FULL_SOURCE
table_refusal (tables.Full key) = Fault statuses.FULL
table_refusal tables.NoMemory = Memory

-- what is reported of each answer of a member: of a payload that is no packet too; else why the fragment isn't taken in
abbrev pub answer_told : Result Outcome MemberFault → Result (Reported NbtTaken) Refusal
answer_told (Ok outcome) = Ok (told_of outcome)
answer_told (Err (Packet fault error)) = Ok (told_refused fault error)
answer_told (Err (Table fault)) = Err (table_refusal fault)

-- Tells answer old new status: a call with this answer leaves what was lent so, and has this status
abbrev pub Tells : Result (Reported NbtTaken) Refusal → LentWith NbtTaken → LentWith NbtTaken → ℕ → Type 0
Tells (Ok told) old new status =
    (new.numbers ≡ told.numbers) × (new.buffer ≡ told.bytes ++ drop (length told.bytes) old.buffer)
    × (new.used ≡ length told.bytes) × (status ≡ statuses.DONE)
Tells (Err refusal) old new status =
    (new.numbers ≡ old.numbers) × (new.buffer ≡ old.buffer) × (new.used ≡ old.used) × (status ≡ refused_status refusal)

-- Took m moment payload after old new status: what the call that takes a payload does to the member m and to what its
-- caller lends. The room is judged first: where there is too little, whatever the payload, nothing changes
pub data Took (m : MemberValue) (moment : ℕ) (payload : List ℕ) (after : MemberValue)
    (old new : LentWith NbtTaken) (status : ℕ) : Type 0 where
  no_room : length old.buffer < outcomes.TAKE_ROOM → after ≡ m → new.numbers ≡ old.numbers → new.buffer ≡ old.buffer
      → new.used ≡ outcomes.TAKE_ROOM → status ≡ statuses.NO_ROOM → Took m moment payload after old new status
  answered : (result : Result Outcome MemberFault) → outcomes.TAKE_ROOM ≤ length old.buffer
      → Takes m moment payload after result → Tells (answer_told result) old new status
      → Took m moment payload after old new status

-- ---- the clock

-- Ticks m now after dropped dropped' status: what the call that shows a station the clock does to the member m: its
-- keys whose timers have run out are dropped, and it answers how many those are
pub data Ticks (m : MemberValue) (now : ℕ) (after : MemberValue) (dropped dropped' status : ℕ) : Type 0 where
  done : after ≡ with_timed m (after_clock m.timed now) → dropped' + maps.len (contents after) ≡ maps.len (contents m)
      → status ≡ statuses.DONE → Ticks m now after dropped dropped' status

-- ---- one that is none

-- OnStation old new Done Idle: a call on a station does so to its member, and it stays one; of none it is idle, and it stays none
pub record OnStation (old new : NbtStation) (Done : MemberValue → MemberValue → Type 0) (Idle : Type 0) : Type 0 where
  pub here : IsHere old.at → IsHere new.at × Done old.value.member new.value.member
  pub none : IsNone old.at → IsNone new.at × Idle

-- OnLent station station' Does old new status: a call does so to the member of a station and to what is lent, and answers
-- where there is none
abbrev pub OnLent : NbtStation → NbtStation → (MemberValue → MemberValue → Lent → Lent → ℕ → Type 0) → Lent → Lent → ℕ → Type 0
OnLent station station' Does old new status =
    OnStation station station' (λ m after. Does m after old new status)
    (Answers (Err (Fault statuses.NO_STATION)) old new status)

-- WritesOf bytes m after old new status: a call writes these bytes, or memory runs out, and the member stays
abbrev pub WritesOf : List ℕ → MemberValue → MemberValue → Lent → Lent → ℕ → Type 0
WritesOf bytes m after old new status = (after ≡ m) × Writes (OrMemory (Ok bytes)) old new status
