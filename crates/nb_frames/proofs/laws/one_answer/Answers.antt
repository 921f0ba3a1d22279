use Rattle.nb_frames.proofs.AnswerLemmas.{one_contents, some_contents}
use Rattle.nb_frames.proofs.laws.one_answer.Goals as goal

pub returns-clause-some : goal.returns-clause-some
returns-clause-some c = some_contents

pub returns-clause-one : goal.returns-clause-one
returns-clause-one c = one_contents
