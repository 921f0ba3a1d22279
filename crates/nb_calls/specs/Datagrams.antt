-- What the call that reads a payload of port 138 answers (RFC 1002 section 4.4). Places and lengths are in bytes of the
-- payload.
use Rattle.std.specs.Prelude.{◌≡◌, ℕ, ◌+◌, List, length, Result, Ok, Err, Option, Some, None}
use Rattle.nb_calls.specs.Common.{w32, from_be_bytes, DatagramFault, Key, HEADER_LENGTH, DIRECT_HEADER_LENGTH, ErrorPacket, Direct, Error, Query, FragmentParts, error_type, query_type, type_of, Packet, QueryPacket, IsPacket, name_bytes, NetbiosName, FragmentFront, Front, HasFront, LacksHeader, TRUNCATED}
use Rattle.nb_datagram.specs.DatagramFaults.{PacketFails}
use Rattle.nb_calls.specs.declared.datagrams.NbtDatagram.{NbtDatagram}
use Rattle.nb_calls.specs.Statuses.{Refusal, datagram_refusal, FaultAt}
use Rattle.nb_calls.specs.declared.datagrams.NbtDatagramFront.{NbtDatagramFront}

-- header_places type flags key used: what the header says, and how many bytes the packet has
abbrev pub header_places : ℕ → ℕ → Key → ℕ → NbtDatagram
header_places type flags key used = record {
  packet_type = type;
  flags = flags;
  identifier = key.id;
  address = from_be_bytes w32 key.ip;
  port = key.port;
  offset = 0;
  source = 0;
  source_length = 0;
  destination = 0;
  destination_length = 0;
  contents = 0;
  contents_length = 0;
  used = used;
}

-- a fragment's: both names behind the fourteen bytes, then the data
abbrev pub fragment_places : FragmentParts → ℕ → NbtDatagram
fragment_places f used = record (header_places (type_of f.kind) f.flags f.key used) {
  offset = f.offset;
  source = DIRECT_HEADER_LENGTH;
  source_length = length (name_bytes f.source);
  destination = DIRECT_HEADER_LENGTH + length (name_bytes f.source);
  destination_length = length (name_bytes f.destination);
  contents = DIRECT_HEADER_LENGTH + length (name_bytes f.source) + length (name_bytes f.destination);
  contents_length = length f.bytes;
}

-- an error packet's: its code behind the header
abbrev pub error_places : ErrorPacket → ℕ → NbtDatagram
error_places e used = record (header_places error_type e.flags e.key used) { contents = HEADER_LENGTH; contents_length = 1 }

-- a query packet's: the name behind the header
abbrev pub query_places : QueryPacket → ℕ → NbtDatagram
query_places q used = record (header_places (query_type q.kind) q.flags q.key used) {
  destination = HEADER_LENGTH;
  destination_length = length (name_bytes q.destination);
}

-- places_of packet used: the numbers of a packet that has so many bytes, and where its parts stand
abbrev pub places_of : Packet → ℕ → NbtDatagram
places_of (Direct f) used = fragment_places f used
places_of (Error e) used = error_places e used
places_of (Query q) used = query_places q used

-- Reads payload answer: the payload begins with a packet, whose places are answered, or has this fault
abbrev pub Reads : List ℕ → Result NbtDatagram Refusal → Type 0
Reads payload (Ok places) = (packet : Packet) × (used : ℕ) × IsPacket payload packet used × (places ≡ places_of packet used)
Reads payload (Err refusal) = (fault : DatagramFault) × PacketFails payload fault × (refusal ≡ datagram_refusal fault)

-- ---- what stands at the front of a payload, whether or not a packet does (RFC 1002 sections 4.4.1 and 4.4.2)
-- The places and lengths of a name that isn't there whole are 0.

-- how many bytes the spelling of a name has that may be there
abbrev pub spelled_length : Option NetbiosName → ℕ
spelled_length None = 0
spelled_length (Some name) = length (name_bytes name)

-- place_if name place: the place of a name that may be there, which would stand at this one
abbrev pub place_if : Option NetbiosName → ℕ → ℕ
place_if None place = 0
place_if (Some name) place = place

-- numbers front offset source destination: what the header says, and where these names stand
abbrev pub numbers : Front → ℕ → Option NetbiosName → Option NetbiosName → NbtDatagramFront
numbers front offset source destination = record {
  packet_type = front.message_type;
  flags = front.flags;
  identifier = front.key.id;
  address = from_be_bytes w32 front.key.ip;
  port = front.key.port;
  offset = offset;
  source = place_if source DIRECT_HEADER_LENGTH;
  source_length = spelled_length source;
  destination = place_if destination (DIRECT_HEADER_LENGTH + spelled_length source);
  destination_length = spelled_length destination;
}

-- places_after front rest: the numbers of a front, after whose first ten bytes this stands
abbrev pub places_after : Front → Option FragmentFront → NbtDatagramFront
places_after front None = numbers front 0 None None
places_after front (Some rest) = numbers front rest.offset rest.source rest.destination

-- the numbers of a front, and the places of its names
abbrev pub front_places : Front → NbtDatagramFront
front_places front = places_after front front.fragment

-- ReadsFront payload answer: this stands at the front of the payload, whose header isn't there whole else
abbrev pub ReadsFront : List ℕ → Result NbtDatagramFront Refusal → Type 0
ReadsFront payload (Ok found) = (front : Front) × HasFront payload front × (found ≡ front_places front)
ReadsFront payload (Err refusal) = LacksHeader payload × (refusal ≡ FaultAt TRUNCATED (length payload))
