-- Why bytes begin with no datagram service packet, and where (our choice): the first step at which a reading
-- of them stops. The steps are the ten bytes of the header, its type, the bytes in front of the names,
-- the bytes that DGM_LENGTH counts, then the names. All offsets count from the first byte.
--
-- A missing byte is reported by the number of bytes that are there, which is the first missing one's
-- offset. Names are read with pointers refused; those of a fragment inside the bytes that DGM_LENGTH
-- counts, that of a query packet over all bytes.
use Rattle.std.specs.Prelude.{ℕ, ◌+◌, ◌<◌, ◌≤◌, List, [], ◌∷◌, length, take}
use Rattle.std.specs.Int.{w16}
use Rattle.nb_names.specs.declared.reading.Pointers.TheVariants.{Refused}
use Rattle.nb_names.specs.declared.fault.NameFault.{NameFault}
use Rattle.nb_streams.specs.Places.{StandsAt, NumberAt}
use Rattle.nb_names.specs.Labels.{NameAt}
use Rattle.nb_names.specs.Name.{NetbiosName, IsName, labels_of_name}
use Rattle.nb_names.specs.NameFaults.{NetbiosFaultAt}
use Rattle.nb_datagram.specs.declared.fault.DatagramFault.{DatagramFault}
use Rattle.nb_datagram.specs.declared.fault.DatagramFault.TheVariants.{Truncated, UnknownType, SourceName, DestinationName}
use Rattle.nb_datagram.specs.declared.limits.TheConstants.{HEADER_LENGTH, ERROR_LENGTH, DIRECT_HEADER_LENGTH}
use Rattle.nb_datagram.specs.Header.{error_type, IsDirectType, IsQueryType, IsUnknownType}

-- these bytes begin with a whole header, of this type
pub record HasType (bytes : List ℕ) (type : ℕ) : Type 0 where
  pub whole : HEADER_LENGTH ≤ length bytes
  pub first : StandsAt bytes 0 (type ∷ [])

-- NamesFail packet fault: in a fragment's packet, whose last byte is the last that DGM_LENGTH counts, a
-- name has this fault
pub data NamesFail (packet : List ℕ) : DatagramFault → Type 0 where
  in_source : (fault : NameFault) → NetbiosFaultAt packet Refused DIRECT_HEADER_LENGTH fault
      → NamesFail packet (SourceName fault)
  in_destination : (source : NetbiosName) (next : ℕ) (fault : NameFault)
      → IsName source → NameAt packet Refused DIRECT_HEADER_LENGTH (labels_of_name source) next
      → NetbiosFaultAt packet Refused next fault → NamesFail packet (DestinationName fault)

-- DirectFails bytes fault: after the header of a fragment's packet this is the first fault
pub data DirectFails (bytes : List ℕ) : DatagramFault → Type 0 where
  no_fields : length bytes < DIRECT_HEADER_LENGTH → DirectFails bytes (Truncated (length bytes))
  no_data : (size : ℕ) → NumberAt bytes HEADER_LENGTH w16 size → DIRECT_HEADER_LENGTH ≤ length bytes
      → length bytes < DIRECT_HEADER_LENGTH + size → DirectFails bytes (Truncated (length bytes))
  in_names : {fault : DatagramFault} (size : ℕ) → NumberAt bytes HEADER_LENGTH w16 size
      → DIRECT_HEADER_LENGTH + size ≤ length bytes
      → NamesFail (take (DIRECT_HEADER_LENGTH + size) bytes) fault → DirectFails bytes fault

-- PacketFails bytes fault: these bytes begin with no packet, and this is the first fault
pub data PacketFails (bytes : List ℕ) : DatagramFault → Type 0 where
  no_header : length bytes < HEADER_LENGTH → PacketFails bytes (Truncated (length bytes))
  no_type : (type : ℕ) → HasType bytes type → IsUnknownType type → PacketFails bytes UnknownType
  direct_fails : {fault : DatagramFault} (type : ℕ) → HasType bytes type → IsDirectType type
      → DirectFails bytes fault → PacketFails bytes fault
  no_code : HasType bytes error_type → length bytes < ERROR_LENGTH → PacketFails bytes (Truncated (length bytes))
  query_fails : (type : ℕ) (fault : NameFault) → HasType bytes type → IsQueryType type
      → NetbiosFaultAt bytes Refused HEADER_LENGTH fault → PacketFails bytes (DestinationName fault)
