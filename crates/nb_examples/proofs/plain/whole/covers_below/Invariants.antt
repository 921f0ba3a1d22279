use Rattle.nb_datagram.specs.Fragment.{cores_of}
use Rattle.nb_examples.specs.Plain.{CoversBelow}
use Rattle.nb_examples.proofs.plain.whole.covers_below.Given as goal

abbrev pub invariant-loop-place : goal.invariant-loop-place
invariant-loop-place l = CoversBelow (cores_of l.fragments) l.key l.place
