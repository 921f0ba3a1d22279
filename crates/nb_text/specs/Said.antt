-- What phrases are made of, and what is said of packets of ports 138 and 139 and of a payload that begins with no packet (our
-- choice). The packets are those of RFC 1002 sections 4.4 and 4.3. A phrase is pieces, one after another.
use Rattle.std.specs.Prelude.{◌≡◌, ℕ, ◌-◌, ◌==◌, nat_lt, Bool, String, string_bytes, List, [], ◌∷◌, ◌++◌, length, codes, fold, Option, Some, None, OnOk, Result, if◌then◌else◌}
use Rattle.std.specs.Fmt.{decimal}
use Rattle.std.specs.List.{flat_map}
use Rattle.nb_names.specs.declared.fault.NameFault.{NameFault}
use Rattle.nb_streams.specs.declared.bytes.NoMemory.{NoMemory}
use Rattle.nb_streams.specs.Growth.{OnlyAdds}
use Rattle.nb_names.specs.declared.fault.NameFault.TheVariants as names
use Rattle.nb_streams.specs.Addresses.{address_text}
use Rattle.nb_streams.specs.Hexadecimal.{digits_of}
use Rattle.nb_names.specs.NameText.{written}
use Rattle.nb_session.specs.Packet.{Packet as SessionPacket}
use Rattle.nb_session.specs.declared.fault.SessionFault.{SessionFault}
use Rattle.nb_session.specs.declared.fault.SessionFault.TheVariants as session_faults
use Rattle.nb_session.specs.declared.packet.Packet.TheVariants as sessions
use Rattle.nb_session.specs.declared.parsing.Parsed.TheVariants.{Whole, More, Refused}
use Rattle.nb_session.specs.FaultTexts.{session_fault_place, session_fault_subject, session_fault_words}
use Rattle.nb_session.specs.Parsing.{Parsed}
use Rattle.nb_datagram.specs.declared.fault.DatagramFault.{DatagramFault}
use Rattle.nb_datagram.specs.declared.fault.DatagramFault.TheVariants as datagram_faults
use Rattle.nb_datagram.specs.declared.key.Kind.{Kind}
use Rattle.nb_datagram.specs.declared.key.Kind.TheVariants.{Unique, Group, Broadcast}
use Rattle.nb_datagram.specs.declared.packet.QueryKind.{QueryKind}
use Rattle.nb_datagram.specs.declared.packet.QueryKind.TheVariants as queries
use Rattle.nb_datagram.specs.declared.packet.Packet.TheVariants.{Direct, Error, Query}
use Rattle.nb_datagram.specs.declared.error_codes.TheConstants.{DESTINATION_NAME_NOT_PRESENT, INVALID_SOURCE_NAME_FORMAT, INVALID_DESTINATION_NAME_FORMAT}
use Rattle.nb_datagram.specs.FaultTexts.{datagram_fault_place, datagram_fault_subject, datagram_fault_words}
use Rattle.nb_datagram.specs.Fragment.{FragmentParts, has_more}
use Rattle.nb_datagram.specs.Packet.{Packet as DatagramPacket}

-- ---- pieces

-- the phrase of these pieces
abbrev pub phrase : List (List ℕ) → List ℕ
phrase [] = []
phrase (piece ∷ []) = piece
phrase (piece ∷ next ∷ pieces) = piece ++ phrase (next ∷ pieces)

-- said_after text pieces: the text with these pieces behind it
abbrev pub said_after : List ℕ → List (List ℕ) → List ℕ
said_after text pieces = fold (λ t piece. t ++ piece) text pieces

-- Says old new pieces: the pieces were added to a text
abbrev pub Says : {Z : Type 0} → String Z → String Z → List (List ℕ) → Type 0
Says old new pieces = string_bytes new ≡ said_after (string_bytes old) pieces

-- Adds result old new pieces: where memory sufficed, the pieces were added to a text; what stood in it is its front anyway
abbrev pub Adds : {A Z : Type 0} → Result A NoMemory → String Z → String Z → List (List ℕ) → Type 0
Adds result old new pieces = OnOk result (Says old new pieces) × OnlyAdds (string_bytes old) (string_bytes new)

-- what is counted, where so many bytes are: one is no plural
abbrev pub bytes_word : ℕ → List ℕ
bytes_word count = if count == 1 then codes " byte" else codes " bytes"

-- how many bytes there are
abbrev pub bytes_said : ℕ → List (List ℕ)
bytes_said count = decimal count ∷ bytes_word count ∷ []

-- coded_said lead words code: words, and the code that they are for
abbrev pub coded_said : List ℕ → List ℕ → ℕ → List (List ℕ)
coded_said lead words code = lead ∷ words ∷ codes " (" ∷ digits_of code ∷ codes ")" ∷ []

-- commas text items: the texts of items, with commas between them
abbrev pub commas : {A : Type 0} → (A → List ℕ) → List A → List (List ℕ)
commas text [] = []
commas text (item ∷ items) = text item ∷ flat_map (λ next. codes ", " ∷ text next ∷ []) items

-- what follows, where so many bytes do
abbrev pub follow_word : ℕ → List ℕ
follow_word count = if count == 1 then codes " byte follows" else codes " bytes follow"

-- follow_said used size: how many bytes of a payload of this size follow the packet
abbrev pub follow_said : ℕ → ℕ → List (List ℕ)
follow_said used size = if nat_lt used size then codes ", " ∷ decimal (size - used) ∷ follow_word (size - used) ∷ [] else []

-- ---- port 139

-- what the refusal of a session says (4.3.4)
abbrev pub refusal_words : ℕ → List ℕ
refusal_words code =
    if code == 128 then codes "not listening on called name"
    else if code == 129 then codes "not listening for calling name"
    else if code == 130 then codes "called name not present"
    else if code == 131 then codes "called name present, but insufficient resources"
    else if code == 143 then codes "unspecified error"
    else codes "unknown code"

-- a packet
abbrev pub session_said : SessionPacket → List (List ℕ)
session_said (sessions.Message bytes) = codes "sends " ∷ bytes_said (length bytes)
session_said (sessions.Request called calling) = codes "calls " ∷ written called ∷ codes " as " ∷ written calling ∷ []
session_said sessions.Positive = codes "accepts" ∷ []
session_said (sessions.Negative code) = coded_said (codes "refuses: ") (refusal_words code) code
session_said (sessions.Retarget address port) =
    codes "sends the caller to " ∷ address_text address ∷ codes ", port " ∷ decimal port ∷ []
session_said sessions.Keepalive = codes "keeps the session alive" ∷ []

-- ---- port 138

-- what a datagram of a kind is called (4.4.1)
abbrev pub kind_words : Kind → List ℕ
kind_words Unique = codes "datagram from "
kind_words Group = codes "group datagram from "
kind_words Broadcast = codes "broadcast datagram from "

-- offset_said more offset: which bytes of a datagram there are, where they aren't all
abbrev pub offset_said : Bool → ℕ → List (List ℕ)
offset_said more offset =
    if more then codes " at offset " ∷ decimal offset ∷ codes " of one that goes on" ∷ []
    else if offset == 0 then []
    else codes " at offset " ∷ decimal offset ∷ codes ", the last" ∷ []

-- a datagram, or a part of one (4.4.2)
abbrev pub fragment_said : FragmentParts → List (List ℕ)
fragment_said f =
    kind_words f.kind ∷ written f.source ∷ codes " to " ∷ written f.destination ∷ codes ", " ∷ decimal (length f.bytes)
    ∷ bytes_word (length f.bytes) ∷ offset_said (has_more f.flags) f.offset

-- what an error says (4.4.3)
abbrev pub error_words : ℕ → List ℕ
error_words code =
    if code == DESTINATION_NAME_NOT_PRESENT then codes "no such destination name"
    else if code == INVALID_SOURCE_NAME_FORMAT then codes "source name of a wrong form"
    else if code == INVALID_DESTINATION_NAME_FORMAT then codes "destination name of a wrong form"
    else codes "unknown code"

-- a question whether datagrams are relayed, and its answers (4.4.4)
abbrev pub query_words : QueryKind → List ℕ
query_words queries.Request = codes "asks whether datagrams are relayed to "
query_words queries.Positive = codes "answers: datagrams are relayed to "
query_words queries.Negative = codes "answers: no datagrams are relayed to "

-- a packet
abbrev pub datagram_said : DatagramPacket → List (List ℕ)
datagram_said (Direct f) = fragment_said f
datagram_said (Error e) = coded_said (codes "error: ") (error_words e.code) e.code
datagram_said (Query q) = query_words q.kind ∷ written q.destination ∷ []

-- ---- no packet

-- of what the place of a name's fault is a byte, where it is none of the payload: of the spelling (4.1) of a name that is no
-- NetBIOS name's
abbrev pub counts_in : NameFault → List ℕ
counts_in (names.NotNetbios place) = codes " of the name"
counts_in (names.Truncated at) = []
counts_in (names.ReservedLabel at) = []
counts_in (names.PointerNotAllowed at) = []
counts_in (names.BadPointer at) = []
counts_in (names.TooLong at) = []

-- refused_said subject words place counted: which name is wrong, where one is, what is wrong, and the place, a byte of what
-- is said behind it
abbrev pub refused_said : List ℕ → List ℕ → Option ℕ → List ℕ → List (List ℕ)
refused_said subject words None counted = codes "refused: " ∷ subject ∷ words ∷ []
refused_said subject words (Some place) counted =
    codes "refused: " ∷ subject ∷ words ∷ codes ", at byte " ∷ decimal place ∷ counted ∷ []

-- of a session
abbrev pub session_counts_in : SessionFault → List ℕ
session_counts_in session_faults.UnknownType = []
session_counts_in session_faults.ReservedFlags = []
session_counts_in session_faults.BadLength = []
session_counts_in (session_faults.Name fault) = counts_in fault
session_counts_in (session_faults.TrailingBytes at) = []

-- why there is no session packet
abbrev pub session_refused_said : SessionFault → List (List ℕ)
session_refused_said fault =
    refused_said (session_fault_subject fault) (session_fault_words fault) (session_fault_place fault) (session_counts_in fault)

-- of a datagram
abbrev pub datagram_counts_in : DatagramFault → List ℕ
datagram_counts_in (datagram_faults.Truncated at) = []
datagram_counts_in datagram_faults.UnknownType = []
datagram_counts_in (datagram_faults.SourceName fault) = counts_in fault
datagram_counts_in (datagram_faults.DestinationName fault) = counts_in fault

-- why there is no datagram packet
abbrev pub datagram_refused_said : DatagramFault → List (List ℕ)
datagram_refused_said fault =
    refused_said (datagram_fault_subject fault) (datagram_fault_words fault) (datagram_fault_place fault) (datagram_counts_in fault)

-- parsed_said parsed size: what stands at the front of a payload of this size: a packet, a front of one that lacks so many
-- bytes, or neither
abbrev pub parsed_said : Parsed → ℕ → List (List ℕ)
parsed_said (Whole packet used) size = session_said packet ++ follow_said used size
parsed_said (More needed) size = codes "begins a packet that lacks " ∷ bytes_said needed
parsed_said (Refused fault) size = session_refused_said fault
