use Rattle.std.proofs.Common.{◌∙◌, ap}
use Rattle.nb_survey.specs.Code.Kept.{queries_in}
use Rattle.nb_survey.proofs.survey.Survey.queries.Goals as goal

pub returns-in-Some : goal.returns-in-Some
returns-in-Some c = λ packets sums whole. c.as_slice.ensures.value ∙ (ap queries_in c.in-Some.ensures.value ∙ (sums c.args.name.now whole).1)

pub returns-in-None : goal.returns-in-None
returns-in-None c = λ packets sums whole. ap queries_in c.in-None.ensures.value ∙ (sums c.args.name.now whole).1
