use Rattle.nb_building.proofs.Common.{◌≡◌, map, Direct, packet_bytes}
use Rattle.nb_building.proofs.datagram.encoded_pieces.Given as goal

abbrev pub invariant-loop-piece : goal.invariant-loop-piece
invariant-loop-piece l = l.packets ≡ map (λ piece. packet_bytes (Direct piece)) l.yielded
