-- A frame as the standards lay it out, part after part: laws compare with it what is read by places.
use Rattle.std.specs.Prelude.{◌≡◌, ℕ, ◌+◌, ◌*◌, ◌/◌, ◌%◌, ◌<◌, ◌≤◌, ◌^◌, List, [], ◌∷◌, ◌++◌, length, Some}
use Rattle.std.specs.Int.{w16, to_be_bytes}
use Rattle.std.specs.declared.net.ip_addr.IpAddr.TheVariants.{V4}
use Rattle.nb_frames.specs.declared.carried.Carried.TheVariants.{Udp}
use Rattle.nb_frames.specs.declared.contents.Contents.{Contents}
use Rattle.nb_frames.specs.Payload.{whole}

-- six bytes
pub record Six : Type 0 where
  pub a : ℕ
  pub b : ℕ
  pub c : ℕ
  pub d : ℕ
  pub e : ℕ
  pub f : ℕ

-- four bytes
pub record Four : Type 0 where
  pub a : ℕ
  pub b : ℕ
  pub c : ℕ
  pub d : ℕ

-- six bytes as a list
abbrev pub six : Six → List ℕ
six x = x.a ∷ x.b ∷ x.c ∷ x.d ∷ x.e ∷ x.f ∷ []

-- four bytes as a list
abbrev pub four : Four → List ℕ
four x = x.a ∷ x.b ∷ x.c ∷ x.d ∷ []

-- what is written in a frame of Ethernet that has one tag, a packet of IPv4, a datagram of UDP, and padding
pub record TaggedDatagram : Type 0 where
  pub receiver : Six
  pub sender : Six
  pub control : ℕ
  pub service : ℕ
  pub identification : ℕ
  pub lifetime : ℕ
  pub checksum : ℕ
  pub source : Four
  pub destination : Four
  pub options : List ℕ
  pub source_port : ℕ
  pub destination_port : ℕ
  pub sum : ℕ
  pub payload : List ℕ
  pub padding : List ℕ

-- its datagram (RFC 768)
abbrev pub udp_bytes : TaggedDatagram → List ℕ
udp_bytes f =
    to_be_bytes w16 f.source_port ++ (to_be_bytes w16 f.destination_port ++ (to_be_bytes w16 (8 + length f.payload) ++ (to_be_bytes w16 f.sum
    ++ f.payload)))

-- its packet (RFC 791 section 3.1), which may not be cut into fragments
abbrev pub ipv4_bytes : TaggedDatagram → List ℕ
ipv4_bytes f =
    (64 + (5 + length f.options / 4)) ∷ f.service ∷ (to_be_bytes w16 (20 + length f.options + length (udp_bytes f))
    ++ (to_be_bytes w16 f.identification ++ (to_be_bytes w16 0x4000 ++ (f.lifetime ∷ 17 ∷ (to_be_bytes w16 f.checksum
    ++ (four f.source ++ (four f.destination ++ (f.options ++ udp_bytes f))))))))

-- its bytes: receiver, sender, a tag of 802.1Q, the type of IPv4, the packet, padding
abbrev pub frame_bytes : TaggedDatagram → List ℕ
frame_bytes f =
    six f.receiver ++ (six f.sender ++ (to_be_bytes w16 0x8100 ++ (to_be_bytes w16 f.control ++ (to_be_bytes w16 0x0800 ++ (ipv4_bytes f ++ f.padding)))))

-- each part has its length, and each number fits its field
pub record IsLaidOut (f : TaggedDatagram) : Type 0 where
  pub control : f.control < 2 ^ 16
  pub words : ℕ
  pub options : length f.options ≡ 4 * words
  pub few : words ≤ 10
  pub source_port : f.source_port < 2 ^ 16
  pub destination_port : f.destination_port < 2 ^ 16
  pub fits : 20 + length f.options + (8 + length f.payload) < 2 ^ 16

-- what it has: of the payload neither options nor padding
abbrev pub contents_written : TaggedDatagram → Contents
contents_written f = record {
  sender = Some (record { octets = six f.sender });
  receiver = Some (record { octets = six f.receiver });
  vlans = record { items = f.control % 2 ^ 12 ∷ [] };
  carried = Udp (record {
    hosts = record { source = V4 (record { octets = four f.source }); destination = V4 (record { octets = four f.destination }) };
    ports = record { source = f.source_port; destination = f.destination_port };
    payload = whole f.payload;
  });
}
