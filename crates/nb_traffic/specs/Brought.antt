-- What a frame of a capture brings, without where it lies in memory.
use Rattle.std.specs.Prelude.{ℕ, Bool, List, Option}
use Rattle.nb_connections.specs.declared.taken.LeftOut.{LeftOut}
use Rattle.nb_frames.specs.declared.carried.Hosts.{Hosts}
use Rattle.nb_frames.specs.declared.carried.Ports.{Ports}
use Rattle.nb_frames.specs.declared.reason.Reason.{Reason}
use Rattle.nb_traffic.specs.declared.brought.Brought.{Brought}
use Rattle.nb_traffic.specs.declared.brought.Brought.TheVariants as lent
use Rattle.nb_traffic.specs.declared.brought.FragmentFault.{FragmentFault}
use Rattle.nb_traffic.specs.declared.brought.Packet.{Packet}
use Rattle.nb_traffic.specs.declared.brought.Segment.{Segment as SegmentLent}

-- a packet of the service of this port, as far as it is captured, and how many bytes it had
pub record PacketValue : Type 0 where
  pub hosts : Hosts
  pub ports : Ports
  pub service : ℕ
  pub bytes : List ℕ
  pub wire_length : ℕ

-- a segment: how many bytes of payload it had, the session packets that it completes, one after another, what is left out with it, and
-- whether bytes came again with other values
pub record SegmentValue : Type 0 where
  pub hosts : Hosts
  pub ports : Ports
  pub wire_length : ℕ
  pub packets : List ℕ
  pub left_out : Option LeftOut
  pub differs : Bool

-- what a frame brings
pub data BroughtValue : Type 0 where
  Datagram : PacketValue → BroughtValue
  Segment : SegmentValue → BroughtValue
  Fragment : BroughtValue
  NoFragment : Hosts → FragmentFault → BroughtValue
  OtherPorts : BroughtValue
  Unread : Reason → BroughtValue

-- the same of a packet that is lent
abbrev pub packet_value : Packet → PacketValue
packet_value p = record { hosts = p.hosts; ports = p.ports; service = p.service; bytes = p.bytes.now; wire_length = p.wire_length }

-- the same of a segment
abbrev pub segment_value : SegmentLent → SegmentValue
segment_value s = record {
  hosts = s.hosts;
  ports = s.ports;
  wire_length = s.wire_length;
  packets = s.packets.now;
  left_out = s.left_out;
  differs = s.differs;
}

-- the same of what a frame brings
abbrev pub brought_value : Brought → BroughtValue
brought_value (lent.Datagram packet) = Datagram (packet_value packet)
brought_value (lent.Segment segment) = Segment (segment_value segment)
brought_value lent.Fragment = Fragment
brought_value (lent.NoFragment hosts fault) = NoFragment hosts fault
brought_value lent.OtherPorts = OtherPorts
brought_value (lent.Unread reason) = Unread reason
