-- The kinds of packets (our choice), by the header (RFC 1002 sections 4.2.1.1, 4.3.1 and 4.4.1) and what stands behind it.
use Rattle.std.specs.Prelude.{ℕ, ◌&&◌, ◌||◌, Bool, true, false, not, List, codes, nat_eq, nat_le}
use Rattle.std.specs.List.{list_any}
use Rattle.nb_service.specs.Header.{opcode_of, rcode_of}
use Rattle.nbt_look.specs.declared.counting.Outcome.{Outcome}
use Rattle.nbt_look.specs.declared.counting.Outcome.TheVariants as outcome
use Rattle.nbt_look.specs.declared.hearing.Heard.{Heard}
use Rattle.nbt_look.specs.declared.heading.Heading.{Heading}
use Rattle.nbt_look.specs.declared.heading.Heading.TheVariants.{Names, Datagram as Message, Session, Nothing}
use Rattle.nbt_look.specs.declared.kinds.Kind.{Kind}
use Rattle.nbt_look.specs.declared.kinds.Kind.TheVariants as kind
use Rattle.nbt_look.specs.declared.kinds.Marks.{Marks}
use Rattle.nbt_look.specs.Wanted.{is_any}

-- the word for a kind
abbrev pub kind_word : Kind → List ℕ
kind_word kind.Query = codes "query"
kind_word kind.Status = codes "status"
kind_word kind.Registration = codes "registration"
kind_word kind.Refresh = codes "refresh"
kind_word kind.Release = codes "release"
kind_word kind.Wack = codes "wack"
kind_word kind.Response = codes "response"
kind_word kind.Conflict = codes "conflict"
kind_word kind.Datagram = codes "datagram"
kind_word kind.Unique = codes "unique"
kind_word kind.Group = codes "group"
kind_word kind.Broadcast = codes "broadcast"
kind_word kind.Fragment = codes "fragment"
kind_word kind.Error = codes "error"
kind_word kind.Find = codes "find"
kind_word kind.Found = codes "found"
kind_word kind.Missing = codes "missing"
kind_word kind.Session = codes "session"
kind_word kind.Request = codes "request"
kind_word kind.Retarget = codes "retarget"
kind_word kind.Message = codes "message"
kind_word kind.Keepalive = codes "keepalive"
kind_word kind.Positive = codes "positive"
kind_word kind.Negative = codes "negative"
kind_word kind.Malformed = codes "malformed"
kind_word kind.LeftOut = codes "left-out"

-- ---- port 137

-- R of a flag word, its highest bit: the packet is a response
abbrev pub is_response : ℕ → Bool
is_response word = nat_le 0x8000 word

-- a registration is 5 (4.2.2); that 15 is one, of a host of several addresses, is our choice
abbrev pub is_claim : ℕ → Bool
is_claim operation = nat_eq operation 5 || nat_eq operation 15

-- a refresh is 9 (4.2.4); that 8 is one too is our choice
abbrev pub is_refresh : ℕ → Bool
is_refresh operation = nat_eq operation 8 || nat_eq operation 9

-- is_taken operation code: CFT_ERR, 7, by which a name is in conflict (4.2.8), or ACT_ERR, 6, by which one that is asked for is another
-- station's (4.2.6)
abbrev pub is_taken : ℕ → ℕ → Bool
is_taken operation code = nat_eq code 7 || (nat_eq code 6 && (is_claim operation || is_refresh operation))

-- is_demand operation code: a name conflict demand (4.2.8), which answers nothing
abbrev pub is_demand : ℕ → ℕ → Bool
is_demand operation code = nat_eq operation 5 && nat_eq code 7

-- names_kind kind word heard: whether a packet of this flag word is of this kind, where this was heard of its questions and records:
-- OPCODE 0 is a query, 6 a release, 7 a WACK (4.2.1.1)
abbrev pub names_kind : Kind → ℕ → Heard → Bool
names_kind kind.Query word heard = nat_eq (opcode_of word) 0 && not heard.status
names_kind kind.Status word heard = heard.status
names_kind kind.Registration word heard = is_claim (opcode_of word) && not heard.status
names_kind kind.Refresh word heard = is_refresh (opcode_of word) && not heard.status
names_kind kind.Release word heard = nat_eq (opcode_of word) 6 && not heard.status
names_kind kind.Wack word heard = nat_eq (opcode_of word) 7 && not heard.status
names_kind kind.Response word heard = is_response word
names_kind kind.Conflict word heard = is_response word && (is_taken (opcode_of word) (rcode_of word) || heard.conflict)
names_kind kind.Positive word heard = is_response word && (nat_eq (rcode_of word) 0 && not (nat_eq (opcode_of word) 7))
names_kind kind.Negative word heard = is_response word && (not (nat_eq (rcode_of word) 0) && not (is_demand (opcode_of word) (rcode_of word)))
names_kind _ word heard = false

-- ---- port 138

-- MSG_TYPE of a direct unique, a direct group or a broadcast datagram (4.4.2)
abbrev pub is_datagram : ℕ → Bool
is_datagram type = nat_le 0x10 type && nat_le type 0x12

-- datagram_kind kind type is_piece: whether a packet of this MSG_TYPE is of this kind: 13 is an error (4.4.3), 14 to 16 are a query
-- and its responses (4.4.4)
abbrev pub datagram_kind : Kind → ℕ → Bool → Bool
datagram_kind kind.Datagram type is_piece = is_datagram type
datagram_kind kind.Fragment type is_piece = is_datagram type && is_piece
datagram_kind kind.Unique type is_piece = nat_eq type 0x10
datagram_kind kind.Group type is_piece = nat_eq type 0x11
datagram_kind kind.Broadcast type is_piece = nat_eq type 0x12
datagram_kind kind.Error type is_piece = nat_eq type 0x13
datagram_kind kind.Find type is_piece = nat_eq type 0x14
datagram_kind kind.Found type is_piece = nat_eq type 0x15
datagram_kind kind.Positive type is_piece = nat_eq type 0x15
datagram_kind kind.Missing type is_piece = nat_eq type 0x16
datagram_kind kind.Negative type is_piece = nat_eq type 0x16
datagram_kind _ type is_piece = false

-- ---- port 139

-- session_kind kind type: whether a packet of this TYPE is of this kind (4.3.1)
abbrev pub session_kind : Kind → ℕ → Bool
session_kind kind.Session type = true
session_kind kind.Message type = nat_eq type 0x00
session_kind kind.Request type = nat_eq type 0x81
session_kind kind.Positive type = nat_eq type 0x82
session_kind kind.Negative type = nat_eq type 0x83
session_kind kind.Retarget type = nat_eq type 0x84
session_kind kind.Keepalive type = nat_eq type 0x85
session_kind _ type = false

-- ---- each port

-- by_heading kind heading heard: whether a packet of this header is of this kind
abbrev pub by_heading : Kind → Heading → Heard → Bool
by_heading k (Names word) heard = names_kind k word heard
by_heading k (Message type is_piece) heard = datagram_kind k type is_piece
by_heading k (Session type) heard = session_kind k type
by_heading k Nothing heard = false

-- whether a packet that counts so is malformed
abbrev pub is_malformed : Outcome → Bool
is_malformed outcome.Malformed = true
is_malformed _ = false

-- whether something of it is left out
abbrev pub is_left_out : Outcome → Bool
is_left_out (outcome.LeftOut reason) = true
is_left_out _ = false

-- whether a packet is of this kind
abbrev pub is_of : Kind → Marks → Bool
is_of kind.Malformed marks = is_malformed marks.outcome
is_of kind.LeftOut marks = is_left_out marks.outcome
is_of k marks = by_heading k marks.heading marks.heard

-- whether it is of one of these kinds
abbrev pub is_of_any : List Kind → Marks → Bool
is_of_any kinds marks = list_any (λ one. is_of one marks) kinds

-- the same; it is where none is named
abbrev pub is_of_kinds : List Kind → Marks → Bool
is_of_kinds kinds marks = is_any kinds || is_of_any kinds marks
