use Rattle.std.proofs.Common.{◌≡◌, drop}
use Rattle.nb_datagram.specs.Fragment.{cores_of}
use Rattle.nb_table.specs.Contents.{end_of}
use Rattle.nb_examples.proofs.plain.end_of.Given as goal

abbrev pub invariant-loop-fragment : goal.invariant-loop-fragment
invariant-loop-fragment l = end_of (cores_of (drop l.fragment-index l.fragments)) l.key ≡ end_of (cores_of l.fragments) l.key
