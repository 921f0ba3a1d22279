use Rattle.nb_session.proofs.TotalityLemmas.{some_answer}
use Rattle.nb_session.proofs.laws.some_answer.Goals as goal

pub returns : goal.returns
returns c = some_answer
