use Rattle.std.proofs.Common.{◌∙◌}
use Rattle.nb_names.proofs.reading.NameReader.domain_at.Goals as goal

pub returns-in-Some : goal.returns-in-Some
returns-in-Some c labels is = c.to_domain.ensures ∙ c.in-Some.ensures labels is
