use Rattle.nb_datagram.proofs.Common.{◌≡◌, map}
use Rattle.std.specs.List.{range_with_len}
use Rattle.nb_datagram.specs.Pieces.{piece}
use Rattle.nb_datagram.proofs.datagram.cut.Given as goal

abbrev pub invariant-loop-place : goal.invariant-loop-place
invariant-loop-place l = l.pieces.items ≡ map (piece l.datagram l.most) (range_with_len 0 l.place)
