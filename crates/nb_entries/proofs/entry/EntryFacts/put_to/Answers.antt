use Rattle.nb_entries.proofs.Common.{[], ◌∷◌, ap, ◌∙◌, after, broken}
use Rattle.nb_names.specs.DomainName.{spelling}
use Rattle.nb_names.specs.Name.{labels_of_name}
use Rattle.nb_datagram.specs.Packet.{type_of}
use Rattle.nb_entries.proofs.entry.EntryFacts.put_to.Goals as goal

pub returns-in_err-put-clause-puts : goal.returns-in_err-put-clause-puts
returns-in_err-put-clause-puts g c =
    let kind = ap (λ n. n ∷ []) (c.message_type.ensures ∙ ap type_of c.kind.ensures) in
    broken g.met.S.ByteSink.laws _ kind c.in_err-put.ensures _ _ c.from_residual.ensures.1

pub returns-in_err-put-2-clause-puts : goal.returns-in_err-put-2-clause-puts
returns-in_err-put-2-clause-puts g c =
    let laws = g.met.S.ByteSink.laws in
    let kind = ap (λ n. n ∷ []) (c.message_type.ensures ∙ ap type_of c.kind.ensures) in
    let source = c.spelling.ensures.value ∙ ap spelling (c.to_domain.ensures ∙ ap labels_of_name c.source-2.ensures) in
    after laws _ _ kind c.in_ok-put.ensures _ (broken laws _ source c.in_err-put-2.ensures _ _ c.from_residual-in_err-put-2.ensures.1)

pub returns-in_err-put-3-clause-puts : goal.returns-in_err-put-3-clause-puts
returns-in_err-put-3-clause-puts g c =
    let laws = g.met.S.ByteSink.laws in
    let kind = ap (λ n. n ∷ []) (c.message_type.ensures ∙ ap type_of c.kind.ensures) in
    let source = c.spelling.ensures.value ∙ ap spelling (c.to_domain.ensures ∙ ap labels_of_name c.source-2.ensures) in
    let destination = c.spelling-2.ensures.value ∙ ap spelling (c.to_domain-2.ensures ∙ ap labels_of_name c.destination-2.ensures) in
    after laws _ _ kind c.in_ok-put.ensures _ (after laws _ _ source c.in_ok-put-2.ensures _
    (broken laws _ destination c.in_err-put-3.ensures _ _ c.from_residual-in_err-put-3.ensures.1))

pub returns-clause-puts : goal.returns-clause-puts
returns-clause-puts g c =
    let laws = g.met.S.ByteSink.laws in
    let kind = ap (λ n. n ∷ []) (c.message_type.ensures ∙ ap type_of c.kind.ensures) in
    let source = c.spelling.ensures.value ∙ ap spelling (c.to_domain.ensures ∙ ap labels_of_name c.source-2.ensures) in
    let destination = c.spelling-2.ensures.value ∙ ap spelling (c.to_domain-2.ensures ∙ ap labels_of_name c.destination-2.ensures) in
    after laws _ _ kind c.in_ok-put.ensures _ (after laws _ _ source c.in_ok-put-2.ensures _
    (after laws _ _ destination c.in_ok-put-3.ensures _ (rw (← c.cover.ensures) c.put_to.ensures)))
