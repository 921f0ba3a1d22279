-- Datagrams of UDP (RFC 768). Places count from the header's first byte.
--   at 0  source port 2 · at 2  destination port 2 · at 4  length, with the header 2 · at 6  checksum 2
-- Segments of TCP (RFC 9293 section 3.1).
--   at 0  source port 2 · at 2  destination port 2 · at 4  sequence number 4 · at 8  acknowledgment number 4
--   at 12  data offset 1 · at 13  control bits 1 · at 14  window 2 · at 16  checksum 2, urgent pointer 2, options
use Rattle.std.specs.Prelude.{ℕ, ◌*◌, ◌/◌, ◌||◌, nat_lt, List, length, if◌then◌else◌}
use Rattle.nb_frames.specs.declared.carried.Carried.{Carried}
use Rattle.nb_frames.specs.declared.carried.Carried.TheVariants.{Udp, Tcp, Other}
use Rattle.nb_frames.specs.declared.carried.Hosts.{Hosts}
use Rattle.nb_frames.specs.declared.carried.Ports.{Ports}
use Rattle.nb_frames.specs.declared.reason.Reason.TheVariants.{Bad, Cut}
use Rattle.nb_frames.specs.Fields.{byte_at, word_at, long_at}
use Rattle.nb_frames.specs.Payload.{PayloadValue, rest_after}

-- the ports with which a header of UDP or TCP begins
abbrev pub ports_in : List ℕ → Ports
ports_in bytes = record { source = word_at bytes 0; destination = word_at bytes 2 }

-- what a packet between these hosts carries whose body this is and whose protocol is UDP. The payload goes as far as the
-- datagram's own length says, and is cut where that is more than the packet has
abbrev pub udp_in : Hosts → PayloadValue → Carried
udp_in hosts body =
    (if nat_lt body.wire_length 8 then Other Bad
    else (if nat_lt (length body.bytes) 8 then Other Cut
    else (if nat_lt (word_at body.bytes 4) 8 then Other Bad
    else Udp (record { hosts = hosts; ports = ports_in body.bytes; payload = rest_after body.bytes (word_at body.bytes 4) 8 }))))

-- how many bytes the header has: the data offset counts words of four bytes
abbrev pub tcp_header : List ℕ → ℕ
tcp_header bytes = byte_at bytes 12 / 16 * 4

-- the same of TCP. Of a header, which has twenty bytes at least, those before the checksum are needed: what stands after them
-- isn't read
abbrev pub tcp_in : Hosts → PayloadValue → Carried
tcp_in hosts body =
    (if nat_lt body.wire_length 20 then Other Bad
    else (if nat_lt (length body.bytes) 16 then Other Cut
    else (if nat_lt (tcp_header body.bytes) 20 || nat_lt body.wire_length (tcp_header body.bytes) then Other Bad
    else Tcp (record {
      hosts = hosts;
      ports = ports_in body.bytes;
      sequence = long_at body.bytes 4;
      acknowledgment = long_at body.bytes 8;
      flags = record { 0 = byte_at body.bytes 13 };
      payload = rest_after body.bytes body.wire_length (tcp_header body.bytes);
    }))))
