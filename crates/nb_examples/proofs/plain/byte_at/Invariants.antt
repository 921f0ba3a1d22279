use Rattle.std.proofs.Common.{◌≡◌, drop}
use Rattle.nb_datagram.specs.Fragment.{cores_of}
use Rattle.nb_table.specs.Contents.{byte_at}
use Rattle.nb_examples.proofs.plain.byte_at.Given as goal

abbrev pub invariant-loop-candidate : goal.invariant-loop-candidate
invariant-loop-candidate l = byte_at (cores_of (drop l.candidate-index l.fragments)) l.key l.place ≡ byte_at (cores_of l.fragments) l.key l.place
