-- Packets of IPv4 (RFC 791 section 3.1). Places count from the packet's first byte.
--   at 0  version and header length 1 · at 2  total length 2 · at 4  identification 2 · at 6  flags and fragment offset 2
--   at 9  protocol 1 · at 12  source 4 · at 16  destination 4 · at 20  options
--
-- Checksums aren't judged.
use Rattle.std.specs.Prelude.{ℕ, ◌*◌, ◌%◌, ◌==◌, ◌||◌, nat_le, nat_lt, List, length, Option, Some, None, Result, Ok, Err, if◌then◌else◌}
use Rattle.std.specs.declared.net.ip_addr.IpAddr.TheVariants.{V4}
use Rattle.nb_frames.specs.declared.carried.IpPacket.{IpPacket}
use Rattle.nb_frames.specs.declared.carried.Place.{Place}
use Rattle.nb_frames.specs.declared.reason.Reason.{Reason}
use Rattle.nb_frames.specs.declared.reason.Reason.TheVariants.{Bad, Cut}
use Rattle.nb_frames.specs.Fields.{byte_at, word_at, bytes_at}
use Rattle.nb_frames.specs.Payload.{rest_after}

-- how many bytes the header has: its length counts words of four bytes
abbrev pub header_4 : List ℕ → ℕ
header_4 packet = byte_at packet 0 % 16 * 4

-- how many bytes the packet had on the wire. A total length of 0 is that of a packet which the sender's network card cuts into
-- several: it goes as far as the frame
abbrev pub wire_4 : List ℕ → ℕ
wire_4 packet = (if word_at packet 2 == 0 then length packet else word_at packet 2)

-- where a fragment has its place: a packet is one where more fragments follow it, or its place isn't the first. An offset counts
-- eight bytes
abbrev pub place_4 : List ℕ → Option Place
place_4 packet =
    (if word_at packet 6 % 0x4000 == 0 then None
    else Some (record {
      identification = word_at packet 4;
      offset = word_at packet 6 % 0x2000 * 8;
      more = nat_le 0x2000 (word_at packet 6 % 0x4000);
    }))

-- the packet whose header is this
abbrev pub packet_4 : List ℕ → IpPacket
packet_4 packet = record {
  hosts = record {
    source = V4 (record { octets = bytes_at 4 packet 12 });
    destination = V4 (record { octets = bytes_at 4 packet 16 });
  };
  protocol = byte_at packet 9;
  place = place_4 packet;
  body = rest_after packet (wire_4 packet) (header_4 packet);
}

-- what is read of a packet of which the first twenty bytes are there
abbrev pub ipv4 : List ℕ → Result IpPacket Reason
ipv4 packet =
    (if nat_lt (header_4 packet) 20 || nat_lt (wire_4 packet) (header_4 packet) then Err Bad
    else (if nat_lt (length packet) (header_4 packet) then Err Cut
    else Ok (packet_4 packet)))
