use Rattle.nb_member.proofs.Common.{filter, rules, ap, ◌∙◌, hears}
use Rattle.std.proofs.lemmas.Fn.{filter_same}
use Rattle.nb_member.proofs.member.heard_of.Goals as goal

pub returns : goal.returns
returns c =
    c.from_vec.ensures
    ∙ (filter_same _ (hears c.args.names.now) _ (λ d b f' t. search rules) _ _ c.retain.ensures.filtered
    ∙ ap (filter (hears c.args.names.now)) c.into_vec-heard.ensures)
