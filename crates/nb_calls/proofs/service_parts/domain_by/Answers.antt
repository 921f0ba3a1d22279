use Rattle.nb_calls.proofs.Common.{◌∙◌, refl, sym, subst, Followed, NameAt, domain_name, domain_end}
use Rattle.nb_calls.proofs.DomainLemmas.{ends_elsewhere, ends_there}
use Rattle.nb_calls.proofs.service_parts.domain_by.Goals as goal

pub returns-then-ne : goal.returns-then-ne
returns-then-ne c =
    let elsewhere = ends_elsewhere _ _ _ _ c.checked_sub.ensures (sym c.ne.ensures ∙ c.if-ne.true) in
    (_, domain_end _ _ c.in-Ok.ensures.found elsewhere, refl)

pub returns-else-ne : goal.returns-else-ne
returns-else-ne c =
    let there = ends_there _ _ _ _ c.checked_sub.ensures (sym c.ne.ensures ∙ c.if-ne.false) in
    (_, subst (λ n. NameAt c.args.names.now Followed c.args.place c.in-Ok.domain n) there c.in-Ok.ensures.found, refl)

pub returns-in-Err : goal.returns-in-Err
returns-in-Err c = (_, domain_name _ c.in-Err.ensures.fault, c.name_refusal.ensures)
