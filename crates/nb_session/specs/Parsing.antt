-- What stands at the front of bytes: a session packet, the front of one, or neither. Offsets count from
-- the first byte.
--
-- Our choice: the header is judged as soon as it is there, before more is asked for; its faults come in the
-- order of the cases here, and before those of the body.
use Rattle.std.specs.Prelude.{◌≡◌, ℕ, ◌-◌, ◌<◌, ◌≤◌, List, length, take, Option, Some, None}
use Rattle.nb_names.specs.declared.reading.Pointers.TheVariants.{Refused as refused}
use Rattle.nb_names.specs.declared.fault.NameFault.{NameFault}
use Rattle.nb_names.specs.Labels.{NameAt}
use Rattle.nb_names.specs.Name.{NetbiosName, IsName, labels_of_name}
use Rattle.nb_names.specs.NameFaults.{NetbiosFaultAt}
use Rattle.nb_session.specs.declared.fault.SessionFault.{SessionFault}
use Rattle.nb_session.specs.declared.fault.SessionFault.TheVariants.{UnknownType, ReservedFlags, BadLength, Name, TrailingBytes}
use Rattle.nb_session.specs.declared.parsing.Header.{Header}
use Rattle.nb_session.specs.declared.packet.Kind.{Kind}
use Rattle.nb_session.specs.declared.packet.Kind.TheVariants.{Request}
use Rattle.nb_session.specs.declared.limits.TheConstants.{HEADER_LENGTH}
use Rattle.nb_session.specs.declared.parsing.Parsed.{Parsed as ParsedOf}
use Rattle.nb_session.specs.declared.parsing.Parsed.TheVariants.{Whole, More, Refused}
use Rattle.nb_session.specs.Header.{HasHeader, IsGood, MayHave, type_of, body_length, packet_length}
use Rattle.nb_session.specs.Packet.{Packet, IsPacket}

-- what stands at the front of bytes, whatever the form of a packet's names
abbrev pub Parsed : Type 0
Parsed = ParsedOf NetbiosName

-- HeaderFails header fault: no packet has this header, and this is its first fault
pub data HeaderFails (header : Header) : SessionFault → Type 0 where
  unknown_type : ((kind : Kind) → ¬ (type_of kind ≡ header.packet_type)) → HeaderFails header UnknownType
  reserved_flags : (kind : Kind) → type_of kind ≡ header.packet_type → 1 < header.flags
      → HeaderFails header ReservedFlags
  bad_length : (kind : Kind) → type_of kind ≡ header.packet_type → header.flags ≤ 1
      → ¬ MayHave kind (body_length header) → HeaderFails header BadLength

-- RequestFails packet fault: the bytes of this packet, whose header is a request's, have no two names
-- after it, or more than them, and this is the first fault
pub data RequestFails (packet : List ℕ) : SessionFault → Type 0 where
  called_fails : (fault : NameFault) → NetbiosFaultAt packet refused HEADER_LENGTH fault
      → RequestFails packet (Name fault)
  calling_fails : (called : NetbiosName) (behind : ℕ) (fault : NameFault) → IsName called
      → NameAt packet refused HEADER_LENGTH (labels_of_name called) behind
      → NetbiosFaultAt packet refused behind fault → RequestFails packet (Name fault)
  bytes_trail : (called calling : NetbiosName) (behind end : ℕ) → IsName called → IsName calling
      → NameAt packet refused HEADER_LENGTH (labels_of_name called) behind
      → NameAt packet refused behind (labels_of_name calling) end
      → end < length packet → RequestFails packet (TrailingBytes end)

-- Parses bytes parsed: this stands at the front of the bytes: a whole packet, which takes up so many of
-- them; the front of a packet, which lacks so many of the header or, after it, of the body; or neither,
-- for this fault
pub data Parses (bytes : List ℕ) : Parsed → Type 0 where
  header_lacks : length bytes < HEADER_LENGTH → Parses bytes (More (HEADER_LENGTH - length bytes))
  header_fails : (header : Header) (fault : SessionFault) → HasHeader bytes header
      → HeaderFails header fault → Parses bytes (Refused fault)
  body_lacks : (header : Header) (kind : Kind) → HasHeader bytes header → IsGood header kind
      → length bytes < packet_length header → Parses bytes (More (packet_length header - length bytes))
  body_fails : (header : Header) (fault : SessionFault) → HasHeader bytes header → IsGood header Request
      → packet_length header ≤ length bytes → RequestFails (take (packet_length header) bytes) fault
      → Parses bytes (Refused fault)
  whole : (packet : Packet) (used : ℕ) → used ≤ length bytes → IsPacket packet (take used bytes)
      → Parses bytes (Whole packet used)

-- more bytes are needed to judge these
abbrev pub Lacks : List ℕ → Type 0
Lacks bytes = (needed : ℕ) × Parses bytes (More needed)

-- how many bytes the packet takes up that stands there, if one does
abbrev pub taken_by : Parsed → Option ℕ
taken_by (Whole packet used) = Some used
taken_by (More needed) = None
taken_by (Refused fault) = None

-- AreOnePacket bytes: what stands at the front of these bytes is a packet that takes up all of them
abbrev pub AreOnePacket : List ℕ → Type 0
AreOnePacket bytes = (parsed : Parsed) → Parses bytes parsed → taken_by parsed ≡ Some (length bytes)
