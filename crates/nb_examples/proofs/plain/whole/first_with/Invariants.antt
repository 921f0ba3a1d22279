use Rattle.std.proofs.Common.{◌≡◌, drop, slice_get}
use Rattle.nb_datagram.specs.Fragment.{cores_of}
use Rattle.nb_table.specs.Conflict.{with_key}
use Rattle.nb_examples.proofs.plain.whole.first_with.Given as goal

abbrev pub invariant-loop-fragment : goal.invariant-loop-fragment
invariant-loop-fragment l =
    slice_get (with_key l.key (cores_of (drop l.fragment-index l.fragments))) 0
    ≡ slice_get (with_key l.key (cores_of l.fragments)) 0
