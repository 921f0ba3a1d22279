use Rattle.std.proofs.Common.{◌-◌, ◌≤◌, length}
use Rattle.nb_frames.specs.Ipv6.{leads}
use Rattle.nb_frames.proofs.HeaderLemmas.{IsLed}
use Rattle.nb_frames.proofs.ipv6_reading.upper_of.Given as goal

abbrev pub invariant-headers : goal.invariant-headers
invariant-headers l = record {
  led : IsLed l.packet l.wire l.number l.at (leads l.packet l.wire l.fn.number l.fn.at);
  there : l.at ≤ length l.packet;
  within : l.at ≤ l.wire;
}

abbrev pub decreases-headers : goal.decreases-headers
decreases-headers l = length l.packet - l.at
