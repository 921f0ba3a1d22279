use Rattle.std.proofs.Common.{◌≤◌, ◌-◌}
use Rattle.nb_tcp.specs.Runs.{Moves}
use Rattle.nb_tcp.specs.declared.limits.TheConstants.{LAST}
use Rattle.nb_tcp.proofs.front.hand_on.Given as goal

abbrev pub invariant-parts : goal.invariant-parts
invariant-parts l = record {
  moves : Moves l.runs l.fn.at l.fn.to.items l.at l.to.items;
  last : l.at ≤ LAST;
}

abbrev pub decreases-parts : goal.decreases-parts
decreases-parts l = LAST - l.at
