-- Datagram service packets, and exactly their bytes (RFC 1002 sections 4.4.1 to 4.4.4). Numbers stand
-- with their high byte first, names as they are spelled, with no pointer.
--
-- Our choice: DGM_LENGTH counts the names and the data of its own packet, and not the 14 bytes before them;
-- each fragment carries both names. No bit of FLAGS is without a place: all are kept.
use Rattle.std.specs.Prelude.{◌≡◌, ℕ, ◌<◌, ◌≤◌, ◌^◌, List, [], ◌∷◌, ◌++◌, length, ◌==◌, Bool, cond, refl}
use Rattle.std.specs.Int.{w16, to_be_bytes}
use Rattle.nb_names.specs.DomainName.{spelling}
use Rattle.nb_names.specs.Name.{NetbiosName, IsName, labels_of_name}
use Rattle.nb_datagram.specs.declared.limits.TheConstants.{MAX_LENGTH}
use Rattle.nb_datagram.specs.declared.packet.Packet.{Packet as PacketOf}
use Rattle.nb_datagram.specs.declared.packet.Packet.TheVariants.{Direct, Error, Query}
use Rattle.nb_datagram.specs.declared.packet.QueryPacket.{QueryPacket as QueryPacketOf}
use Rattle.nb_datagram.specs.Fragment.{FragmentParts, named_length}
use Rattle.nb_datagram.specs.Header.{header_bytes, IsKey, error_type, query_type}
use Rattle.std.specs.Coded.{Coded, code_by, coded_ℕ}
use Rattle.nb_datagram.specs.declared.key.Kind.{Kind}
use Rattle.nb_datagram.specs.declared.key.Kind.TheVariants.{Unique, Group, Broadcast}

-- ---- the kinds of datagrams (RFC 1002 section 4.4.1, MSG_TYPE)

-- the MSG_TYPE of a kind: hexadecimal 10, 11 and 12
abbrev pub type_of : Kind → ℕ
type_of Unique = 16
type_of Group = 17
type_of Broadcast = 18

-- the two are one kind
abbrev pub same_kind : Kind → Kind → Bool
same_kind a b = type_of a == type_of b

-- the kind with this MSG_TYPE, and Broadcast for any other number
abbrev pub kind_of : ℕ → Kind
kind_of n = cond (n == 16) Unique (cond (n == 17) Group Broadcast)

-- the MSG_TYPE gives the kind back
pub kind_back : (k : Kind) → kind_of (type_of k) ≡ k
kind_back Unique = refl
kind_back Group = refl
kind_back Broadcast = refl

-- a kind as its MSG_TYPE
abbrev pub kind_code : Coded Kind
kind_code = code_by ℕ coded_ℕ type_of kind_of kind_back

-- a packet, whatever the form of its names
abbrev pub Packet : Type 0
Packet = PacketOf NetbiosName

-- a query packet, whatever the form of its name
abbrev pub QueryPacket : Type 0
QueryPacket = QueryPacketOf NetbiosName

-- the bytes of a name: its letters and its scope's labels, each after its length, then a zero
abbrev pub name_bytes : NetbiosName → List ℕ
name_bytes name = spelling (labels_of_name name)

-- what stands after the header of a fragment's packet (section 4.4.2): DGM_LENGTH 2, PACKET_OFFSET 2,
-- SOURCE_NAME, DESTINATION_NAME, USER_DATA
abbrev pub direct_bytes : FragmentParts → List ℕ
direct_bytes f =
    to_be_bytes w16 (named_length f.source f.destination f.bytes)
    ++ (to_be_bytes w16 f.offset ++ (name_bytes f.source ++ (name_bytes f.destination ++ f.bytes)))

-- the bytes of a packet; after the header of an error packet stands ERROR_CODE 1 (section 4.4.3),
-- after that of a query packet DESTINATION_NAME (section 4.4.4)
abbrev pub packet_bytes : Packet → List ℕ
packet_bytes (Direct f) = header_bytes (type_of f.kind) f.flags f.key ++ direct_bytes f
packet_bytes (Error e) = header_bytes error_type e.flags e.key ++ e.code ∷ []
packet_bytes (Query q) = header_bytes (query_type q.kind) q.flags q.key ++ name_bytes q.destination

-- the fields of a packet have room for this fragment
pub record FitsDirect (f : FragmentParts) : Type 0 where
  pub key : IsKey f.key
  pub offset : f.offset < 2 ^ 16
  pub source : IsName f.source
  pub destination : IsName f.destination
  pub short : named_length f.source f.destination f.bytes ≤ MAX_LENGTH

-- the fields of a packet have room for this one
abbrev pub Fits : Packet → Type 0
Fits (Direct f) = FitsDirect f
Fits (Error e) = IsKey e.key
Fits (Query q) = IsKey q.key × IsName q.destination

-- IsPacket bytes packet used: these bytes begin with this packet, which takes up `used` of them; what
-- follows is no part of it
pub record IsPacket (bytes : List ℕ) (packet : Packet) (used : ℕ) : Type 0 where
  pub fits : Fits packet
  pub rest : List ℕ
  pub whole : bytes ≡ packet_bytes packet ++ rest
  pub counted : used ≡ length (packet_bytes packet)
