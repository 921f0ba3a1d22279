use Rattle.std.proofs.Common.{rules}
use Rattle.std.proofs.lemmas.Fn.{filter_same}
use Rattle.nb_survey.specs.Sayings.{is_of_a_name}
use Rattle.nb_survey.proofs.saying.drop_wildcards.Goals as goal

pub returns : goal.returns
returns c = filter_same _ is_of_a_name _ (λ x b f' k. search rules) _ _ c.retain.ensures.filtered
