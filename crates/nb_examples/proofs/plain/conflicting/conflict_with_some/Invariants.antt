use Rattle.std.proofs.Common.{◌≡◌, drop}
use Rattle.std.specs.List.{list_any}
use Rattle.nb_datagram.specs.Fragment.{core_of, cores_of}
use Rattle.nb_table.specs.Conflict.{conflicts, with_key}
use Rattle.nb_examples.proofs.plain.conflicting.conflict_with_some.Given as goal

abbrev pub invariant-loop-other : goal.invariant-loop-other
invariant-loop-other l =
    list_any (conflicts (core_of l.one)) (with_key l.key (cores_of (drop l.other-index l.others)))
    ≡ list_any (conflicts (core_of l.one)) (with_key l.key (cores_of l.others))
