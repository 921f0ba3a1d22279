use Rattle.std.proofs.Common.{◌≡◌}
use Rattle.std.specs.BTreeMap.{values}
use Rattle.nb_fragments.specs.Code.Kept.{used_in}
use Rattle.nb_fragments.proofs.fragments.used_of.Given as goal

abbrev pub invariant-loop-waiting : goal.invariant-loop-waiting
invariant-loop-waiting l = used_in l.used l.waiting-iterator ≡ used_in 0 (values l.map)
