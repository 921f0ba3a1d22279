-- What each frame of a capture brings: a packet of UDP or of TCP, of this frame alone, or whole by the fragments of IP of which it has the
-- last to come.
use Rattle.std.specs.Prelude.{ℕ, ◌≡◌, List, Option, Some, None, Ok}
use Rattle.nb_connections.specs.Directions.{Takes, lost_after, unfinished_of as unfinished_sessions}
use Rattle.nb_connections.specs.declared.connections.Connections.{Connections}
use Rattle.nb_connections.specs.declared.taken.Taken.{Taken as TakenSegment}
use Rattle.nb_fragments.specs.Code.Kept.{Joined, unfinished_of as unfinished_fragments}
use Rattle.nb_fragments.specs.declared.taken.Taken.{Taken}
use Rattle.nb_fragments.specs.declared.taken.Taken.TheVariants.{Whole, Kept, Again, Disagrees, LeftOut}
use Rattle.nb_fragments.specs.declared.taken.Refusal.{Refusal}
use Rattle.nb_fragments.specs.declared.taken.Refusal.TheVariants as refusal
use Rattle.nb_frames.specs.Carried.{carried_joined}
use Rattle.nb_frames.specs.Contents.{HasContents}
use Rattle.nb_frames.specs.Payload.{whole}
use Rattle.nb_frames.specs.Services.{service_of}
use Rattle.nb_frames.specs.declared.carried.Carried.{Carried}
use Rattle.nb_frames.specs.declared.carried.Carried.TheVariants as carried
use Rattle.nb_frames.specs.declared.carried.IpFragment.{IpFragment}
use Rattle.nb_frames.specs.declared.carried.TcpSegment.{TcpSegment}
use Rattle.nb_frames.specs.declared.carried.UdpDatagram.{UdpDatagram}
use Rattle.nb_frames.specs.declared.contents.Contents.{Contents}
use Rattle.nb_frames.specs.declared.reason.Reason.TheVariants.{Bad}
use Rattle.nb_pcap.specs.Frame.{FrameValue}
use Rattle.nb_traffic.specs.Brought.{BroughtValue, Datagram, Segment, Fragment, NoFragment, OtherPorts, Unread}
use Rattle.nb_traffic.specs.declared.brought.FragmentFault.{FragmentFault}
use Rattle.nb_traffic.specs.declared.brought.FragmentFault.TheVariants as fault
use Rattle.nb_traffic.specs.declared.brought.Unfinished.{Unfinished}
use Rattle.nb_traffic.specs.declared.traffic.Traffic.{Traffic}

-- what a datagram brings that is of the service of this port, if it is of one
abbrev pub datagram_in : Option ℕ → UdpDatagram → BroughtValue
datagram_in None d = OtherPorts
datagram_in (Some service) d = Datagram (record {
  hosts = d.hosts;
  ports = d.ports;
  service = service;
  bytes = d.payload.bytes;
  wire_length = d.payload.wire_length;
})

-- BringsSegment service s old brought new: what a segment brings that is of the service of this port, if it is of one
abbrev pub BringsSegment : Option ℕ → TcpSegment → Connections → BroughtValue → Connections → Type 0
BringsSegment None s old brought new = (brought ≡ OtherPorts) × (new ≡ old)
BringsSegment (Some service) s old brought new = (packets : List ℕ) × (taken : TakenSegment) × Takes old s new packets (Ok taken) × (new.lost ≡ lost_after old s)
    × (brought ≡ Segment (record {
      hosts = s.hosts;
      ports = s.ports;
      wire_length = s.payload.wire_length;
      packets = packets;
      left_out = taken.left_out;
      differs = taken.differs;
    }))

-- BringsPacket packet old brought new: what a packet of IP brings that carries this
abbrev pub BringsPacket : Carried → Connections → BroughtValue → Connections → Type 0
BringsPacket (carried.Udp d) old brought new = (brought ≡ datagram_in (service_of (carried.Udp d)) d) × (new ≡ old)
BringsPacket (carried.Tcp s) old brought new = BringsSegment (service_of (carried.Tcp s)) s old brought new
BringsPacket (carried.Fragment f) old brought new = (brought ≡ Unread Bad) × (new ≡ old)
BringsPacket (carried.Other reason) old brought new = (brought ≡ Unread reason) × (new ≡ old)

-- why nothing is made of a fragment that isn't kept
abbrev pub fault_of : Refusal → FragmentFault
fault_of refusal.Cut = fault.Cut
fault_of refusal.TooLong = fault.TooLong
fault_of refusal.TooMany = fault.TooMany

-- BringsMade taken f old brought new: what a fragment brings of which this is made
abbrev pub BringsMade : Taken → IpFragment → Connections → BroughtValue → Connections → Type 0
BringsMade (Whole bytes) f old brought new = BringsPacket (carried_joined f.hosts f.protocol (whole bytes)) old brought new
BringsMade Kept f old brought new = (brought ≡ Fragment) × (new ≡ old)
BringsMade Again f old brought new = (brought ≡ Fragment) × (new ≡ old)
BringsMade Disagrees f old brought new = (brought ≡ NoFragment f.hosts fault.Disagrees) × (new ≡ old)
BringsMade (LeftOut why) f old brought new = (brought ≡ NoFragment f.hosts (fault_of why)) × (new ≡ old)

-- BringsCarried packet time old brought new: what a frame of this time brings that carries this
abbrev pub BringsCarried : Carried → Option ℕ → Traffic → BroughtValue → Traffic → Type 0
BringsCarried (carried.Fragment f) time old brought new =
    (taken : Taken) × Joined old.fragments f time new.fragments taken × BringsMade taken f old.connections brought new.connections
BringsCarried (carried.Udp d) time old brought new = (new.fragments ≡ old.fragments) × BringsPacket (carried.Udp d) old.connections brought new.connections
BringsCarried (carried.Tcp s) time old brought new = (new.fragments ≡ old.fragments) × BringsPacket (carried.Tcp s) old.connections brought new.connections
BringsCarried (carried.Other reason) time old brought new =
    (new.fragments ≡ old.fragments) × BringsPacket (carried.Other reason) old.connections brought new.connections

-- Brings old f brought new: a frame brings this, where this is kept of the frames before it; then that is
abbrev pub Brings : Traffic → FrameValue → BroughtValue → Traffic → Type 0
Brings old f brought new = (contents : Contents) × HasContents f.link f.bytes contents × BringsCarried contents.carried f.time old brought new

-- what is missing where this is kept of the frames that came
abbrev pub unfinished_of : Traffic → Unfinished
unfinished_of traffic = record { sessions = unfinished_sessions traffic.connections; fragments = unfinished_fragments traffic.fragments }
