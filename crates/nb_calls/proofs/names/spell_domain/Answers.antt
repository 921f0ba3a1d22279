use Rattle.nb_calls.proofs.Common.{◌∙◌, ap, spelling, in_place}
use Rattle.nb_calls.proofs.names.spell_domain.Goals as goal

pub returns-in-Some : goal.returns-in-Some
returns-in-Some c labels is = c.fill_spelling.ensures ∙ ap in_place (c.spelling.ensures.value ∙ ap spelling (c.in-Some.ensures labels is))
