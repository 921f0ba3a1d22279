use Rattle.nb_calls.proofs.Common.{◌≡◌, flat_map, packet_of, counted}
use Rattle.nb_calls.proofs.cutting.joined.Given as goal

abbrev pub invariant-loop-piece : goal.invariant-loop-piece
invariant-loop-piece l = l.bytes.items ≡ flat_map (λ piece. counted (packet_of piece)) l.yielded
