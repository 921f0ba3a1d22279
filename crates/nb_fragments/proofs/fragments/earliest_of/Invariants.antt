use Rattle.std.proofs.Common.{◌≡◌, ◌^◌, ◌-◌}
use Rattle.std.specs.BTreeMap.{values}
use Rattle.nb_fragments.specs.Code.Kept.{earliest_in}
use Rattle.nb_fragments.proofs.fragments.earliest_of.Given as goal

abbrev pub invariant-loop-waiting : goal.invariant-loop-waiting
invariant-loop-waiting l = earliest_in l.earliest l.waiting-iterator ≡ earliest_in (2 ^ 64 - 1) (values l.map)
