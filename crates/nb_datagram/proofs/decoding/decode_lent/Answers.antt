use Rattle.nb_datagram.proofs.FaultLemmas.{only_one}
use Rattle.nb_datagram.proofs.decoding.decode_lent.Goals as goal

pub returns-clause-only : goal.returns-clause-only
returns-clause-only c packet used h = only_one _ c.read_packet.result packet used c.read_packet.ensures.found c.read_packet.ensures.fault h
