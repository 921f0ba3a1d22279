use Rattle.nb_datagram.proofs.Common.{◌∙◌}
use Rattle.nb_datagram.proofs.decoding.decode.Goals as goal

pub returns-in-Ok-clause-only : goal.returns-in-Ok-clause-only
returns-in-Ok-clause-only c packet used h =
    let one = c.in-Ok.ensures.only packet used h in
    (c.to_packet.ensures ∙ one.0, one.1)
