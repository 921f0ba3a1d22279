use Rattle.std.proofs.Common.{◌≡◌, drop}
use Rattle.nb_datagram.specs.Fragment.{cores_of}
use Rattle.nb_table.specs.Conflict.{is_spoilt}
use Rattle.nb_examples.proofs.plain.conflicting.is_spoilt.Given as goal

abbrev pub invariant-loop-index : goal.invariant-loop-index
invariant-loop-index l = is_spoilt (cores_of (drop l.index l.fragments)) l.key ≡ is_spoilt (cores_of l.fragments) l.key
