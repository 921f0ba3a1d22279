use Rattle.std.proofs.Common.{length, ◌-◌, ◌≤◌}
use Rattle.nb_tcp.specs.Runs.{Contradicts}
use Rattle.nb_tcp.proofs.putting.contradicts.Given as goal

abbrev pub invariant-parts : goal.invariant-parts
invariant-parts l = record {
  within : l.count ≤ length l.bytes;
  agreed : Contradicts l.runs l.place l.bytes l.count → ⊥;
}

abbrev pub decreases-parts : goal.decreases-parts
decreases-parts l = length l.bytes - l.count
