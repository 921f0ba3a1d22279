use Rattle.nb_session.proofs.PacketLemmas.{one_value}
use Rattle.nb_session.proofs.ParsingLemmas.{one_answer}
use Rattle.nb_session.proofs.laws.one_answer.Goals as goal

pub returns-clause-one : goal.returns-clause-one
returns-clause-one c = one_answer

pub returns-clause-packet : goal.returns-clause-packet
returns-clause-packet c bytes packet other = one_value packet other bytes
