-- What the code's own functions say of a packet while it is read.
use Rattle.std.specs.Prelude.{ℕ, ◌≤◌, List, length}
use Rattle.nb_streams.specs.Places.{StandsAt}
use Rattle.nb_datagram.specs.declared.decoding.Form.{Form}
use Rattle.nb_datagram.specs.declared.decoding.Form.TheVariants.{Direct, Error, Query}
use Rattle.nb_datagram.specs.declared.front.Header.{Header}
use Rattle.nb_datagram.specs.declared.limits.TheConstants.{HEADER_LENGTH}
use Rattle.nb_datagram.specs.Packet.{type_of}
use Rattle.nb_datagram.specs.Header.{header_bytes, IsKey, error_type, query_type}

-- the MSG_TYPE of packets of a form
abbrev pub number_of : Form → ℕ
number_of (Direct kind) = type_of kind
number_of Error = error_type
number_of (Query kind) = query_type kind

-- these bytes begin with this header
pub record HasHeader (bytes : List ℕ) (header : Header) : Type 0 where
  pub key : IsKey header.key
  pub whole : HEADER_LENGTH ≤ length bytes
  pub stands : StandsAt bytes 0 (header_bytes header.message_type header.flags header.key)
