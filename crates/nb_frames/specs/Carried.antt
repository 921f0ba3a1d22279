-- What a packet of IP carries.
use Rattle.std.specs.Prelude.{ℕ, ◌/◌, ◌==◌, nat_lt, List, drop, length, Option, Some, None, Result, Ok, Err, if◌then◌else◌}
use Rattle.std.specs.Net.Addr.{is_ipv6}
use Rattle.nb_frames.specs.declared.carried.Carried.{Carried}
use Rattle.nb_frames.specs.declared.carried.Carried.TheVariants.{Fragment, Other}
use Rattle.nb_frames.specs.declared.carried.Hosts.{Hosts}
use Rattle.nb_frames.specs.declared.carried.IpPacket.{IpPacket}
use Rattle.nb_frames.specs.declared.carried.Place.{Place}
use Rattle.nb_frames.specs.declared.ipv6_reading.Upper.{Upper}
use Rattle.nb_frames.specs.declared.reason.Reason.{Reason}
use Rattle.nb_frames.specs.declared.reason.Reason.TheVariants.{Bad, Cut, Protocol}
use Rattle.nb_frames.specs.Fields.{byte_at}
use Rattle.nb_frames.specs.Ipv4.{ipv4}
use Rattle.nb_frames.specs.Ipv6.{ipv6, leads}
use Rattle.nb_frames.specs.Payload.{PayloadValue, rest_after}
use Rattle.nb_frames.specs.Transport.{udp_in, tcp_in}

-- the version: the highest four bits
abbrev pub version_of : List ℕ → ℕ
version_of packet = byte_at packet 0 / 16

-- what is read of a packet, of the version that it says itself. Neither header has less than twenty bytes
abbrev pub ip_in : List ℕ → Result IpPacket Reason
ip_in packet =
    (if nat_lt (length packet) 20 then Err Cut
    else (if version_of packet == 4 then ipv4 packet
    else (if version_of packet == 6 then ipv6 packet
    else Err Bad)))

-- what a packet carries that is no fragment, by its protocol
abbrev pub carried_whole : IpPacket → Carried
carried_whole packet =
    (if packet.protocol == 17 then udp_in packet.hosts packet.body
    else (if packet.protocol == 6 then tcp_in packet.hosts packet.body
    else Other (Protocol packet.protocol)))

-- what a packet carries that has this place. A fragment isn't read further, the first one neither
abbrev pub carried_at : Option Place → IpPacket → Carried
carried_at (Some place) packet = Fragment (record { hosts = packet.hosts; protocol = packet.protocol; place = place; payload = packet.body })
carried_at None packet = carried_whole packet

-- what a packet carries
abbrev pub carried_in : IpPacket → Carried
carried_in packet = carried_at packet.place packet

-- what the packet carries that was read, or couldn't be
abbrev pub carried_read : Result IpPacket Reason → Carried
carried_read (Ok packet) = carried_in packet
carried_read (Err reason) = Other reason

-- what a frame carries whose packet begins there, or of which none is read
abbrev pub carried_from : List ℕ → Result ℕ Reason → Carried
carried_from frame (Ok at) = carried_read (ip_in (drop at frame))
carried_from frame (Err reason) = Other reason

-- what a packet of IPv6 carries that has this body, of which further extension headers lead there
abbrev pub carried_behind : Hosts → PayloadValue → Result Upper Reason → Carried
carried_behind hosts body (Err reason) = Other reason
carried_behind hosts body (Ok upper) =
    carried_in (record { hosts = hosts; protocol = upper.protocol; place = upper.place; body = rest_after body.bytes body.wire_length upper.at })

-- what fragments between these hosts and of this protocol carry that make this body. Of IPv6 further extension headers may stand in it
abbrev pub carried_joined : Hosts → ℕ → PayloadValue → Carried
carried_joined hosts protocol body =
    (if is_ipv6 hosts.source then carried_behind hosts body (leads body.bytes body.wire_length protocol 0)
    else carried_in (record { hosts = hosts; protocol = protocol; place = None; body = body }))
