use Rattle.std.proofs.Common.{◌∙◌, ap}
use Rattle.std.specs.Map.{lookup}
use Rattle.nb_survey.specs.Keys.{same_key}
use Rattle.nb_survey.proofs.survey.Survey.refusals.Goals as goal

pub returns : goal.returns
returns c = λ packets sums key whole. ap (lookup (same_key key)) c.iter.ensures ∙ (sums key.name whole).0.refusals key.address key.reason
