use Rattle.nb_survey.proofs.RowLemmas.{witnessed}
use Rattle.nb_survey.proofs.laws.witnessed.Goals as goal

pub returns-clause-halves : goal.returns-clause-halves
returns-clause-halves c = witnessed

pub returns-clause-macs : goal.returns-clause-macs
returns-clause-macs c = witnessed

pub returns-clause-groups : goal.returns-clause-groups
returns-clause-groups c = witnessed

pub returns-clause-lifetimes : goal.returns-clause-lifetimes
returns-clause-lifetimes c = witnessed
