use Rattle.nb_building.proofs.Common.{◌≡◌, ap, ◌∙◌, arith, map, Direct, packet_bytes, AreTooLong}
use Rattle.nb_building.proofs.datagram.fragments_of.Goals as goal

pub returns-clause-built : goal.returns-clause-built
returns-clause-built c =
    let some : ¬ (c.args.most ≡ 0) = λ zero. let clash = c.cut.ensures.zero.1 zero in cc (clash, c.in_ok-pieces.was) in
    let fit : ¬ AreTooLong c.args.datagram.now c.args.most =
    λ long. let clash = c.cut.ensures.too_long.1 (omega (arith, some), long) in cc (clash, c.in_ok-pieces.was) in
    ((omega (arith, some), fit), c.in_ok-encoded_pieces.ensures ∙ ap (map (λ piece. packet_bytes (Direct piece))) c.in_ok-pieces.ensures.value)
