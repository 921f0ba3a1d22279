-- The status of each fault, the place that goes with it, and its words (our choice).
use Rattle.std.specs.Prelude.{ℕ, ◌+◌, ◌==◌, List, [], ◌∷◌, ◌++◌, map, Option, Some, None, Result, Ok, Err, codes, option_map}
use Rattle.nb_calls.specs.Common.{NameFault, TextFault, LoadFault, DatagramFault, ServiceFault, LineFault, find}
use Rattle.nb_names.specs.declared.fault.NameFault.TheVariants as names
use Rattle.nb_names.specs.declared.fault.TextFault.TheVariants as texts
use Rattle.nb_entries.specs.declared.saved.LoadFault.TheVariants as loads
use Rattle.nb_datagram.specs.declared.fault.DatagramFault.TheVariants as datagrams
use Rattle.nb_session.specs.declared.fault.SessionFault.{SessionFault}
use Rattle.nb_session.specs.declared.fault.SessionFault.TheVariants as sessions
use Rattle.nb_service.specs.declared.fault.ServiceFault.TheVariants as services
use Rattle.nb_capture.specs.declared.fault.LineFault.TheVariants as lines
pub use Rattle.nb_calls.specs.declared.output.Refusal.{Refusal}
pub use Rattle.nb_calls.specs.declared.output.Refusal.TheVariants.{Memory, Fault, FaultAt}
use Rattle.nb_calls.specs.declared.statuses.TheConstants as statuses

-- text_refusal role fault: why a text of this role is of no name
abbrev pub text_refusal : ℕ → TextFault → Refusal
text_refusal role (texts.BadText place) = FaultAt (role + statuses.BAD_TEXT) place
text_refusal role texts.TooLong = Fault (role + statuses.LONG_TEXT)

-- name_refusal role fault: why no name stands where one of this role is read
abbrev pub name_refusal : ℕ → NameFault → Refusal
name_refusal role (names.Truncated place) = FaultAt (role + statuses.NAME_TRUNCATED) place
name_refusal role (names.ReservedLabel place) = FaultAt (role + statuses.NAME_RESERVED_LABEL) place
name_refusal role (names.PointerNotAllowed place) = FaultAt (role + statuses.NAME_POINTER) place
name_refusal role (names.BadPointer place) = FaultAt (role + statuses.NAME_BAD_POINTER) place
name_refusal role (names.TooLong place) = FaultAt (role + statuses.NAME_LONG) place
name_refusal role (names.NotNetbios place) = FaultAt (role + statuses.NAME_NOT_NETBIOS) place

-- load_refusal role fault: why a saved table of this role isn't read
abbrev pub load_refusal : ℕ → LoadFault → Refusal
load_refusal role loads.BadMagic = Fault (role + statuses.TABLE_BAD_MAGIC)
load_refusal role loads.Truncated = Fault (role + statuses.TABLE_TRUNCATED)
load_refusal role (loads.NotCanonical at) = FaultAt (role + statuses.TABLE_NOT_CANONICAL) at
load_refusal role loads.TooLong = Fault (role + statuses.TABLE_LONG)
load_refusal role loads.FullSource = Fault (role + statuses.TABLE_FULL_SOURCE)
load_refusal role loads.Full = Fault (role + statuses.TABLE_FULL)
load_refusal role loads.NoMemory = Memory

-- why a payload begins with no packet of port 138
abbrev pub datagram_refusal : DatagramFault → Refusal
datagram_refusal (datagrams.Truncated place) = FaultAt statuses.TRUNCATED place
datagram_refusal datagrams.UnknownType = Fault statuses.UNKNOWN_TYPE
datagram_refusal (datagrams.SourceName fault) = name_refusal statuses.SOURCE fault
datagram_refusal (datagrams.DestinationName fault) = name_refusal statuses.DESTINATION fault

-- why bytes begin with no packet of port 139
abbrev pub session_refusal : SessionFault → Refusal
session_refusal sessions.UnknownType = Fault statuses.UNKNOWN_TYPE
session_refusal sessions.ReservedFlags = Fault statuses.RESERVED_FLAGS
session_refusal sessions.BadLength = Fault statuses.BAD_LENGTH
session_refusal (sessions.Name fault) = name_refusal statuses.NO_ROLE fault
session_refusal (sessions.TrailingBytes place) = FaultAt statuses.TRAILING_BYTES place

-- why a payload begins with no packet of port 137, or why an item of one doesn't stand whole
abbrev pub service_refusal : ServiceFault → Refusal
service_refusal (services.Truncated place) = FaultAt statuses.TRUNCATED place
service_refusal (services.Name fault) = name_refusal statuses.NO_ROLE fault
service_refusal (services.NameRdata place) = FaultAt statuses.NAME_RDATA place
service_refusal services.NoMemory = Memory

-- why nothing is read of a line of a capture
abbrev pub line_refusal : LineFault → Refusal
line_refusal lines.BadLine = Fault statuses.BAD_LINE
line_refusal lines.NoMemory = Memory

-- ---- the words of statuses

-- the statuses of what isn't about an input
abbrev pub outcomes : List (ℕ × List ℕ)
outcomes =
    (statuses.DONE, codes "done") ∷ (statuses.NO_ROOM, codes "no room") ∷ (statuses.NO_MEMORY, codes "memory") ∷ []

-- the faults of a text
abbrev pub text_faults : List (ℕ × List ℕ)
text_faults = (statuses.BAD_TEXT, codes "bad text") ∷ (statuses.LONG_TEXT, codes "text too long") ∷ []

-- the faults of a name that is read
abbrev pub name_faults : List (ℕ × List ℕ)
name_faults =
    (statuses.NAME_TRUNCATED, codes "truncated") ∷ (statuses.NAME_RESERVED_LABEL, codes "reserved label")
    ∷ (statuses.NAME_POINTER, codes "pointer not allowed") ∷ (statuses.NAME_LONG, codes "too long")
    ∷ (statuses.NAME_NOT_NETBIOS, codes "not netbios") ∷ (statuses.NAME_BAD_POINTER, codes "bad pointer") ∷ []

-- the faults of a saved table
abbrev pub table_faults : List (ℕ × List ℕ)
table_faults =
    (statuses.TABLE_BAD_MAGIC, codes "bad magic") ∷ (statuses.TABLE_TRUNCATED, codes "truncated")
    ∷ (statuses.TABLE_NOT_CANONICAL, codes "not canonical") ∷ (statuses.TABLE_LONG, codes "too long")
    ∷ (statuses.TABLE_FULL_SOURCE, codes "full source") ∷ (statuses.TABLE_FULL, codes "full") ∷ []

-- the statuses of a packet
abbrev pub packet_faults : List (ℕ × List ℕ)
packet_faults =
    (statuses.TRUNCATED, codes "truncated") ∷ (statuses.UNKNOWN_TYPE, codes "unknown type")
    ∷ (statuses.MORE, codes "more bytes needed") ∷ (statuses.RESERVED_FLAGS, codes "reserved flags")
    ∷ (statuses.BAD_LENGTH, codes "bad length") ∷ (statuses.TRAILING_BYTES, codes "trailing bytes")
    ∷ (statuses.NAME_RDATA, codes "name rdata") ∷ (statuses.NO_ITEM, codes "no item")
    ∷ (statuses.OTHER_RDATA, codes "other rdata") ∷ (statuses.NO_PART, codes "no part") ∷ []

-- the statuses of what is asked to be written
abbrev pub request_faults : List (ℕ × List ℕ)
request_faults =
    (statuses.UNKNOWN_REQUEST, codes "unknown request") ∷ (statuses.ZERO_PIECE, codes "zero piece")
    ∷ (statuses.LONG_DATA, codes "data too long") ∷ []

-- the statuses of a table that takes in no more
abbrev pub joining_faults : List (ℕ × List ℕ)
joining_faults =
    (statuses.MISPLACED_FIRST, codes "misplaced first") ∷ (statuses.LONG, codes "too long")
    ∷ (statuses.FULL_SOURCE, codes "full source") ∷ (statuses.FULL, codes "full") ∷ []

-- the statuses of a station and its names, of a part of a packet, of a line of a capture and of a number that is no status
abbrev pub other_faults : List (ℕ × List ℕ)
other_faults =
    (statuses.NAME_PRESENT, codes "name: present") ∷ (statuses.TOO_MANY_NAMES, codes "too many names")
    ∷ (statuses.NO_STATION, codes "no station") ∷ (statuses.OTHER_TYPE, codes "other type")
    ∷ (statuses.BAD_LINE, codes "bad line") ∷ (statuses.UNKNOWN_STATUS, codes "unknown status") ∷ []

-- in_role role words faults: the faults in this role, its number added to theirs, and its words before theirs
abbrev pub in_role : ℕ → List ℕ → List (ℕ × List ℕ) → List (ℕ × List ℕ)
in_role role words faults = map (λ fault. (role + fault.0, words ++ fault.1)) faults

-- each status and its words
abbrev pub status_words : List (ℕ × List ℕ)
status_words =
    outcomes
    ++ text_faults
    ++ in_role statuses.SOURCE_TEXT (codes "source: ") text_faults
    ++ in_role statuses.DESTINATION_TEXT (codes "destination: ") text_faults
    ++ in_role statuses.NO_ROLE (codes "name: ") name_faults
    ++ (statuses.NAME_TRAILING_BYTES, codes "name: trailing bytes") ∷ []
    ++ in_role statuses.SOURCE (codes "source name: ") name_faults
    ++ in_role statuses.DESTINATION (codes "destination name: ") name_faults
    ++ packet_faults
    ++ request_faults
    ++ in_role statuses.NO_ROLE (codes "table: ") table_faults
    ++ in_role statuses.SECOND (codes "second table: ") table_faults
    ++ joining_faults
    ++ other_faults

-- the words beside a number, in the first row that has it
abbrev pub word_beside : List (ℕ × List ℕ) → ℕ → Option (List ℕ)
word_beside rows number = option_map (λ row. row.1) (find (λ row. row.0 == number) rows)

-- the words of a status, if it is one
unfoldable pub status_word : ℕ → Option (List ℕ)
status_word = word_beside status_words

-- what is answered of a status
abbrev pub status_answer_of : Option (List ℕ) → Result (List ℕ) Refusal
status_answer_of (Some words) = Ok words
status_answer_of None = Err (Fault statuses.UNKNOWN_STATUS)

-- what is answered to a question for its words
abbrev pub status_answer : ℕ → Result (List ℕ) Refusal
status_answer status = status_answer_of (status_word status)
