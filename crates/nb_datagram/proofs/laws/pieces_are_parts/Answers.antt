use Rattle.nb_datagram.proofs.PiecesLemmas.{pieces_are_parts, pieces_cover, pieces_end}
use Rattle.nb_datagram.proofs.laws.pieces_are_parts.Goals as goal

pub returns-clause-parts : goal.returns-clause-parts
returns-clause-parts c = pieces_are_parts

pub returns-clause-covered : goal.returns-clause-covered
returns-clause-covered c = pieces_cover

pub returns-clause-ends : goal.returns-clause-ends
returns-clause-ends c = pieces_end
