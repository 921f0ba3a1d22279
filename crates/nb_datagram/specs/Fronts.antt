-- What still stands at the front of bytes that begin with no packet of port 138 (our choice): the header, which of a fragment has
-- DGM_LENGTH and PACKET_OFFSET too (RFC 1002 section 4.4.2), and the names that stand whole after a fragment's.
--
-- Names are read inside the bytes that DGM_LENGTH counts, as many of them as are there, with pointers refused. Offsets count
-- from the first byte.
use Rattle.std.specs.Prelude.{ℕ, ◌+◌, ◌<◌, List, length, take, Option, Some, None}
use Rattle.std.specs.Int.{w16}
use Rattle.nb_names.specs.declared.reading.Pointers.TheVariants.{Refused}
use Rattle.nb_names.specs.declared.fault.NameFault.{NameFault}
use Rattle.nb_streams.specs.Places.{StandsAt, NumberAt}
use Rattle.nb_names.specs.Labels.{NameAt}
use Rattle.nb_names.specs.Name.{NetbiosName, IsName, labels_of_name}
use Rattle.nb_names.specs.NameFaults.{NetbiosFaultAt}
use Rattle.nb_datagram.specs.declared.front.FragmentFront.{FragmentFront}
use Rattle.nb_datagram.specs.declared.front.Front.{Front}
use Rattle.nb_datagram.specs.declared.limits.TheConstants.{HEADER_LENGTH, DIRECT_HEADER_LENGTH}
use Rattle.nb_datagram.specs.DatagramFaults.{HasType}
use Rattle.nb_datagram.specs.Header.{header_bytes, IsKey, IsDirectType}

-- NamesStand packet source destination: after the header of this fragment's packet these names stand whole: none, the source,
-- or both
pub data NamesStand (packet : List ℕ) : Option NetbiosName → Option NetbiosName → Type 0 where
  no_name : (fault : NameFault) → NetbiosFaultAt packet Refused DIRECT_HEADER_LENGTH fault → NamesStand packet None None
  source_alone : (source : NetbiosName) (next : ℕ) (fault : NameFault) → IsName source
      → NameAt packet Refused DIRECT_HEADER_LENGTH (labels_of_name source) next → NetbiosFaultAt packet Refused next fault
      → NamesStand packet (Some source) None
  both_names : (source destination : NetbiosName) (next end : ℕ) → IsName source → IsName destination
      → NameAt packet Refused DIRECT_HEADER_LENGTH (labels_of_name source) next
      → NameAt packet Refused next (labels_of_name destination) end → NamesStand packet (Some source) (Some destination)

-- FragmentStands bytes front: these bytes have the header of a fragment, whose names stand so
pub record FragmentStands (bytes : List ℕ) (front : FragmentFront) : Type 0 where
  pub size : ℕ
  pub counted : NumberAt bytes HEADER_LENGTH w16 size
  pub offset : NumberAt bytes (HEADER_LENGTH + 2) w16 front.offset
  pub names : NamesStand (take (DIRECT_HEADER_LENGTH + size) bytes) front.source front.destination

-- RestStands bytes type rest: after the first ten bytes of a packet of this type this stands, of which a packet that is no
-- fragment has nothing
pub data RestStands (bytes : List ℕ) (type : ℕ) : Option FragmentFront → Type 0 where
  of_fragment : (front : FragmentFront) → IsDirectType type → FragmentStands bytes front → RestStands bytes type (Some front)
  of_another : ¬ IsDirectType type → RestStands bytes type None

-- HasFront bytes front: this stands at the front of these bytes
pub record HasFront (bytes : List ℕ) (front : Front) : Type 0 where
  pub key : IsKey front.key
  pub stands : StandsAt bytes 0 (header_bytes front.message_type front.flags front.key)
  pub rest : RestStands bytes front.message_type front.fragment

-- LacksHeader bytes: the header isn't there whole
pub data LacksHeader (bytes : List ℕ) : Type 0 where
  short : length bytes < HEADER_LENGTH → LacksHeader bytes
  no_fields : (type : ℕ) → HasType bytes type → IsDirectType type → length bytes < DIRECT_HEADER_LENGTH → LacksHeader bytes
