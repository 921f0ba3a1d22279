use Rattle.nb_datagram.proofs.FrontLemmas.{one_front}
use Rattle.nb_datagram.proofs.laws.one_front.Goals as goal

pub returns-clause-one : goal.returns-clause-one
returns-clause-one c = one_front
