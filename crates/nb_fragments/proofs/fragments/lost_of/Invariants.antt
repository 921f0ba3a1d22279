use Rattle.std.proofs.Common.{◌≡◌}
use Rattle.std.specs.BTreeMap.{values}
use Rattle.nb_fragments.specs.Code.Kept.{lost_in}
use Rattle.nb_fragments.proofs.fragments.lost_of.Given as goal

abbrev pub invariant-loop-waiting : goal.invariant-loop-waiting
invariant-loop-waiting l = lost_in l.now l.count l.waiting-iterator ≡ lost_in l.now l.lost (values l.map)
