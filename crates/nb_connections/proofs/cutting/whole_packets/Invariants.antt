use Rattle.std.proofs.Common.{◌≤◌, ◌-◌, List, length, take}
use Rattle.nb_session.specs.Cutting.{ArePackets}
use Rattle.nb_session.specs.Packet.{Packet}
use Rattle.nb_connections.proofs.cutting.whole_packets.Given as goal

abbrev pub invariant-packets : goal.invariant-packets
invariant-packets l = record {
  within : l.end ≤ length l.bytes;
  packets : (packets : List Packet) × ArePackets packets (take l.end l.bytes);
}

abbrev pub decreases-packets : goal.decreases-packets
decreases-packets l = length l.bytes - l.end
