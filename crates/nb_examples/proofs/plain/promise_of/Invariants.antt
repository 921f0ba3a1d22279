use Rattle.std.proofs.Common.{◌≡◌, drop}
use Rattle.nb_datagram.specs.Fragment.{cores_of}
use Rattle.nb_table.specs.Contents.{promise_of}
use Rattle.nb_entries.specs.Marks.{greater}
use Rattle.nb_examples.proofs.plain.promise_of.Given as goal

abbrev pub invariant-loop-fragment : goal.invariant-loop-fragment
invariant-loop-fragment l = greater l.promise (promise_of (cores_of (drop l.fragment-index l.fragments)) l.key) ≡ promise_of (cores_of l.fragments) l.key
