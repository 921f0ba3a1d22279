-- The words for what stands in packets as numbers (our choice; the names are those of RFC 1002 sections 4.2.1.1, 4.2.6,
-- 4.2.11, 4.2.14 and 4.2.18). Bits are numbered as in Flags of nb_service.
use Rattle.std.specs.Prelude.{ℕ, ◌==◌, Bool, not, List, [], ◌∷◌, codes, Option, Some, None, bit_and, if◌then◌else◌}
use Rattle.std.specs.Fmt.{decimal}
use Rattle.nb_service.specs.declared.flags.TheConstants.NmFlags.{AA, TC, RD, RA, B}
use Rattle.nb_service.specs.Header.{nm_bits}
use Rattle.nb_session.specs.declared.packet.Kind.{Kind as SessionKind}
use Rattle.nb_session.specs.declared.packet.Kind.TheVariants as sessions
use Rattle.nb_session.specs.Header as session_types
use Rattle.nb_datagram.specs.declared.key.Kind.TheVariants.{Unique, Group, Broadcast}
use Rattle.nb_datagram.specs.declared.packet.QueryKind.{QueryKind}
use Rattle.nb_datagram.specs.declared.packet.QueryKind.TheVariants.{Request, Positive, Negative}
use Rattle.nb_datagram.specs.Header.{error_type, query_type}
use Rattle.nb_datagram.specs.Packet.{type_of}
use Rattle.nb_datagram.specs.FaultTexts.{kind_text}
use Rattle.nb_telling.specs.Texts.{joined}
use Rattle.nb_text.specs.declared.words.TheConstants.{QUERY, REGISTRATION, RELEASE, WACK, OTHER_REFRESH, REFRESH, OK, FMT_ERR, SRV_ERR, NAM_ERR, IMP_ERR, RFS_ERR, ACT_ERR, CFT_ERR}

-- ---- numbers that have names

-- word_of table n: the word of a number, where the table has one
abbrev pub word_of : List (ℕ × List ℕ) → ℕ → Option (List ℕ)
word_of [] n = None
word_of (row ∷ rows) n = if n == row.0 then Some row.1 else word_of rows n

-- the names of operations
abbrev pub operations : List (ℕ × List ℕ)
operations =
    (QUERY, codes "query") ∷ (REGISTRATION, codes "registration") ∷ (RELEASE, codes "release") ∷ (WACK, codes "wack")
    ∷ (REFRESH, codes "refresh") ∷ (OTHER_REFRESH, codes "refresh") ∷ []

-- the name of an operation, OPCODE; that 8 is a refresh too is our choice
abbrev pub operation_word : ℕ → Option (List ℕ)
operation_word = word_of operations

-- the names of results
abbrev pub results : List (ℕ × List ℕ)
results =
    (OK, codes "ok") ∷ (FMT_ERR, codes "FMT_ERR") ∷ (SRV_ERR, codes "SRV_ERR") ∷ (NAM_ERR, codes "NAM_ERR")
    ∷ (IMP_ERR, codes "IMP_ERR") ∷ (RFS_ERR, codes "RFS_ERR") ∷ (ACT_ERR, codes "ACT_ERR") ∷ (CFT_ERR, codes "CFT_ERR") ∷ []

-- the name of a result, RCODE
abbrev pub rcode_word : ℕ → Option (List ℕ)
rcode_word = word_of results

-- a number by its name, or in decimal where it has none
abbrev pub named_text : Option (List ℕ) → ℕ → List ℕ
named_text (Some word) n = word
named_text None n = decimal n

-- the word for a query packet of port 138
abbrev pub query_word : QueryKind → List ℕ
query_word Request = codes "find"
query_word Positive = codes "found"
query_word Negative = codes "missing"

-- the word for packets of port 138 of a MSG_TYPE
abbrev pub datagram_word : ℕ → Option (List ℕ)
datagram_word =
    word_of ((type_of Unique, kind_text Unique) ∷ (type_of Group, kind_text Group) ∷ (type_of Broadcast, kind_text Broadcast)
    ∷ (error_type, codes "error") ∷ (query_type Request, query_word Request) ∷ (query_type Positive, query_word Positive)
    ∷ (query_type Negative, query_word Negative) ∷ [])

-- the word for packets of port 139 of a kind
abbrev pub session_kind_word : SessionKind → List ℕ
session_kind_word sessions.Message = codes "message"
session_kind_word sessions.Request = codes "request"
session_kind_word sessions.Positive = codes "positive"
session_kind_word sessions.Negative = codes "negative"
session_kind_word sessions.Retarget = codes "retarget"
session_kind_word sessions.Keepalive = codes "keepalive"

-- the type of a kind of packets of port 139, and its word
abbrev pub session_row : SessionKind → ℕ × List ℕ
session_row kind = (session_types.type_of kind, session_kind_word kind)

-- the word for packets of port 139 of a TYPE
abbrev pub session_word : ℕ → Option (List ℕ)
session_word =
    word_of (session_row sessions.Message ∷ session_row sessions.Request ∷ session_row sessions.Positive
    ∷ session_row sessions.Negative ∷ session_row sessions.Retarget ∷ session_row sessions.Keepalive ∷ [])

-- ---- sets of flags

-- a flag: its name, and its bit of the word
pub record Flag : Type 0 where
  pub name : List ℕ
  pub bit : ℕ

-- flag name bit
abbrev pub flag : List ℕ → ℕ → Flag
flag name bit = record { name = name; bit = bit }

-- those of a packet of port 137, in the order in which they are shown
abbrev pub packet_flags : List Flag
packet_flags =
    flag (codes "AA") (nm_bits AA) ∷ flag (codes "TC") (nm_bits TC) ∷ flag (codes "RD") (nm_bits RD)
    ∷ flag (codes "RA") (nm_bits RA) ∷ flag (codes "B") (nm_bits B) ∷ []

-- whether the flag with this bit is set in a word
abbrev pub is_set : ℕ → ℕ → Bool
is_set word bit = not (bit_and word bit == 0)

-- the names of those that are set in a word
abbrev pub names_set : List Flag → ℕ → List (List ℕ)
names_set [] word = []
names_set (f ∷ flags) word = if is_set word f.bit then f.name ∷ names_set flags word else names_set flags word

-- the flags that are set in a word, with `+` between their names, or `none`
abbrev pub set_text : List Flag → ℕ → List ℕ
set_text flags word = joined (names_set flags word)
