use Rattle.std.proofs.Common.{length, ◌-◌, ◌≤◌}
use Rattle.nb_tcp.specs.Runs.{charge_of, Puts}
use Rattle.nb_tcp.specs.Takes.{grown}
use Rattle.nb_tcp.specs.declared.limits.TheConstants.{ROOM}
use Rattle.nb_tcp.proofs.putting.put.Given as goal

abbrev pub invariant-parts : goal.invariant-parts
invariant-parts l = record {
  within : l.count ≤ length l.bytes;
  puts : Puts l.fn.runs l.place l.bytes l.count l.runs;
  room : charge_of l.runs ≤ ROOM;
  grows : charge_of l.runs ≤ grown (charge_of l.fn.runs) l.count;
}

abbrev pub decreases-parts : goal.decreases-parts
decreases-parts l = length l.bytes - l.count
