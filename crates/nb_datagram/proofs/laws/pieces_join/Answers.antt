use Rattle.nb_datagram.proofs.PiecesLemmas.{pieces_join}
use Rattle.nb_datagram.proofs.laws.pieces_join.Goals as goal

pub returns : goal.returns
returns c = pieces_join
