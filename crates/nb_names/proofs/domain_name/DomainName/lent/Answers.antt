use Rattle.std.proofs.Common.{◌∙◌}
use Rattle.nb_names.proofs.SpellingLemmas.{labels_of-spelled, spelled}
use Rattle.nb_names.proofs.domain_name.DomainName.lent.Goals as goal

pub of_spelling-requires : goal.of_spelling-requires
of_spelling-requires c = spelled _ _ c.spelling.ensures.domain c.spelling.ensures.value

pub returns : goal.returns
returns c = c.of_spelling.ensures ∙ labels_of-spelled _ _ c.spelling.ensures.domain c.spelling.ensures.value
