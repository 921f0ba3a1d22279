-- Packets of IPv6 (RFC 8200), with their extension headers. Places count from the packet's first byte.
--   at 0  version, traffic class and flow label 4 · at 4  payload length 2 · at 6  next header 1 · at 8  source 16
--   at 24  destination 16
-- An extension header begins with the number of the next header, and most have their length after it.
use Rattle.std.specs.Prelude.{ℕ, zero, suc, ◌+◌, ◌*◌, ◌/◌, ◌%◌, ◌==◌, ◌||◌, ◌&&◌, nat_le, nat_lt, Bool, List, length, Option, Some, None, Result, Ok, Err, if◌then◌else◌}
use Rattle.std.specs.Net.Addr.{segments_of}
use Rattle.std.specs.declared.net.ip_addr.IpAddr.TheVariants.{V6}
use Rattle.nb_frames.specs.declared.carried.IpPacket.{IpPacket}
use Rattle.nb_frames.specs.declared.carried.Place.{Place}
use Rattle.nb_frames.specs.declared.ipv6_reading.Upper.{Upper}
use Rattle.nb_frames.specs.declared.reason.Reason.{Reason}
use Rattle.nb_frames.specs.declared.reason.Reason.TheVariants.{Bad, Cut}
use Rattle.nb_frames.specs.Fields.{byte_at, word_at, long_at, bytes_at}
use Rattle.nb_frames.specs.Payload.{rest_after}

-- whether a number is that of an extension header: hop-by-hop options, routing, fragment, authentication (RFC 4302) or
-- destination options
abbrev pub is_extension : ℕ → Bool
is_extension number = number == 0 || number == 43 || number == 44 || number == 51 || number == 60

-- how many bytes the extension header of this number has at a place: a fragment header 8; an authentication header counts words of
-- four bytes without the first two, and the others words of eight without the first
abbrev pub extent : List ℕ → ℕ → ℕ → ℕ
extent packet number at =
    (if number == 44 then 8
    else (if number == 51 then 4 * (byte_at packet (at + 1) + 2)
    else 8 * (byte_at packet (at + 1) + 1)))

-- how many bytes the packet had on the wire. A payload length of 0 before hop-by-hop options is that of a jumbogram (RFC 2675),
-- whose length isn't read: it goes as far as the frame
abbrev pub wire_6 : List ℕ → ℕ
wire_6 packet = (if word_at packet 4 == 0 && byte_at packet 6 == 0 then length packet else 40 + word_at packet 4)

-- the place of a fragment, which the extension header of this number says. One that stands for a whole packet (RFC 6946) says none
abbrev pub place_6 : List ℕ → ℕ → ℕ → Option Place
place_6 packet number at =
    (if number == 44 && (nat_le 8 (word_at packet (at + 2)) || word_at packet (at + 2) % 2 == 1)
    then Some (record {
      identification = long_at packet (at + 4);
      offset = word_at packet (at + 2) / 8 * 8;
      more = word_at packet (at + 2) % 2 == 1;
    })
    else None)

-- where a fragment's header leads, which is of this place, and where the headers after another one do, which is of none
abbrev pub placed : Option Place → ℕ → ℕ → Result Upper Reason → Result Upper Reason
placed (Some place) protocol at further = Ok (record { protocol = protocol; at = at; place = Some place })
placed None protocol at further = further

-- leads_within fuel packet wire number at: the same as `leads`, where so many extension headers are looked at
abbrev pub leads_within : ℕ → List ℕ → ℕ → ℕ → ℕ → Result Upper Reason
leads_within zero packet wire number at = Err Cut
leads_within (suc fuel) packet wire number at =
    (if is_extension number then
    (if nat_lt wire (at + extent packet number at) then Err Bad
    else (if nat_lt (length packet) (at + extent packet number at) then Err Cut
    else placed (place_6 packet number at) (byte_at packet at) (at + extent packet number at)
    (leads_within fuel packet wire (byte_at packet at) (at + extent packet number at))))
    else Ok (record { protocol = number; at = at; place = None }))

-- leads packet wire number at: where the extension headers lead, in a packet that had `wire` bytes on the wire, from the header of
-- this number on, which begins at `at`. There are no more of them than bytes
abbrev pub leads : List ℕ → ℕ → ℕ → ℕ → Result Upper Reason
leads packet wire number at = leads_within (suc (length packet)) packet wire number at

-- the packet whose extension headers lead there
abbrev pub packet_6 : List ℕ → Result Upper Reason → Result IpPacket Reason
packet_6 packet (Err reason) = Err reason
packet_6 packet (Ok upper) = Ok (record {
  hosts = record {
    source = V6 (record { segments = segments_of (bytes_at 16 packet 8) });
    destination = V6 (record { segments = segments_of (bytes_at 16 packet 24) });
  };
  protocol = upper.protocol;
  place = upper.place;
  body = rest_after packet (wire_6 packet) upper.at;
})

-- what is read of a packet
abbrev pub ipv6 : List ℕ → Result IpPacket Reason
ipv6 packet =
    (if nat_lt (length packet) 40 then Err Cut
    else packet_6 packet (leads packet (wire_6 packet) (byte_at packet 6) 40))
