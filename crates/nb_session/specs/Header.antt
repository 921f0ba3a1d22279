-- The header of a session packet (RFC 1002 section 4.3.1), four bytes: TYPE 1, FLAGS 1, LENGTH 2, and
-- which headers there are.
--
-- The body's length has 17 bits: LENGTH, and the lowest bit of FLAGS above it.
use Rattle.std.specs.Prelude.{◌≡◌, ℕ, ◌+◌, ◌*◌, ◌/◌, ◌%◌, ◌≤◌, List, [], ◌∷◌, ◌++◌, ⊤}
use Rattle.std.specs.Int.{w16, to_be_bytes}
use Rattle.nb_streams.specs.Places.{StandsAt, NumberAt}
use Rattle.nb_session.specs.declared.parsing.Header.{Header}
use Rattle.nb_session.specs.declared.packet.Kind.{Kind}
use Rattle.nb_session.specs.declared.packet.Kind.TheVariants.{Message, Request, Positive, Negative, Retarget, Keepalive}
use Rattle.nb_session.specs.declared.limits.TheConstants.{HEADER_LENGTH, MIN_REQUEST, MAX_REQUEST}

-- the TYPE of a kind: hexadecimal 00, and 81 to 85
abbrev pub type_of : Kind → ℕ
type_of Message = 0
type_of Request = 129
type_of Positive = 130
type_of Negative = 131
type_of Retarget = 132
type_of Keepalive = 133

-- MayHave kind length: the body of a packet of this kind may have this length
abbrev pub MayHave : Kind → ℕ → Type 0
MayHave Message length = ⊤
MayHave Request length = (MIN_REQUEST ≤ length) × (length ≤ MAX_REQUEST)
MayHave Positive length = length ≡ 0
MayHave Negative length = length ≡ 1
MayHave Retarget length = length ≡ 6
MayHave Keepalive length = length ≡ 0

-- the header before a body of this kind and this length
abbrev pub header_bytes : Kind → ℕ → List ℕ
header_bytes kind length = (type_of kind ∷ length / 65536 ∷ []) ++ to_be_bytes w16 (length % 65536)

-- these bytes begin with this header
pub record HasHeader (bytes : List ℕ) (header : Header) : Type 0 where
  pub first : StandsAt bytes 0 (header.packet_type ∷ header.flags ∷ [])
  pub length : NumberAt bytes 2 w16 header.length

-- the length of the body after a header: the lowest bit of FLAGS adds 65,536, whatever the TYPE
abbrev pub body_length : Header → ℕ
body_length header = header.flags % 2 * 65536 + header.length

-- how many bytes a packet with this header has
abbrev pub packet_length : Header → ℕ
packet_length header = HEADER_LENGTH + body_length header

-- a header of this kind: its TYPE is the kind's, no bit of FLAGS above the lowest is set (our choice), and
-- the length is one that the kind may have
pub record IsGood (header : Header) (kind : Kind) : Type 0 where
  pub type : type_of kind ≡ header.packet_type
  pub flags : header.flags ≤ 1
  pub length : MayHave kind (body_length header)
