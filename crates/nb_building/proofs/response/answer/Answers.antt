use Rattle.nb_building.proofs.Common.{refl, ◌≡◌, ◌≤◌, length, sym, ap, ◌∙◌, inl, inr, Err, cases_lt, of_bytes, of_domain, record_of, plain, domain, IN, NS}
use Rattle.nb_building.proofs.ServiceWordLemmas.{no_domain}
use Rattle.nb_building.proofs.response.answer.Goals as goal

pub returns-in-Ok-clause-made : goal.returns-in-Ok-clause-made
returns-in-Ok-clause-made c =
    let other : ¬ (c.args.kind ≡ NS) = λ ns. let clash = sym c.in-Ok.is ∙ c.bytes.ensures.kind_is_ns.1 ns in absurd (cc (clash)) in
    let short : length c.args.bytes.now ≤ 65535 = elim (cases_lt 65535 (length c.args.bytes.now)) [
      | inl far ↦ let clash = sym c.in-Ok.is ∙ c.bytes.ensures.too_long.1 (other, far) in absurd (cc (clash))
      | inr short ↦ short
    ] in
    (of_bytes c.args.bytes.now, plain other short, c.in-Ok.ensures.value ∙ ap (λ n. record_of n c.args.kind IN c.args.ttl (of_bytes c.args.bytes.now)) c.to_domain.ensures)

pub returns-in_ok-domain-in-Err-KindIsNs-clause-made : goal.returns-in_ok-domain-in-Err-KindIsNs-clause-made
returns-in_ok-domain-in-Err-KindIsNs-clause-made c =
    let ns = c.bytes.ensures.kind_is_ns.0 (c.in-Err-KindIsNs.is ∙ ap Err c.in-Err-KindIsNs.field-0-is) in
    (of_domain c.in_ok-domain-in-Err-KindIsNs.domain, domain _ ns c.in_ok-domain-in-Err-KindIsNs.ensures, rw ns (c.ns.ensures ∙ ap (λ n. record_of n _ IN c.args.ttl (of_domain c.in_ok-domain-in-Err-KindIsNs.domain)) c.to_domain-in-Err-KindIsNs.ensures))

pub returns-in-Err-TooLong-clause-refused : goal.returns-in-Err-TooLong-clause-refused
returns-in-Err-TooLong-clause-refused c =
    let far = c.bytes.ensures.too_long.0 (c.in-Err-TooLong.is ∙ ap Err c.in-Err-TooLong.field-0-is) in inl (refl, far.0, far.1)

pub returns-in_err-domain-in-Err-KindIsNs-clause-refused : goal.returns-in_err-domain-in-Err-KindIsNs-clause-refused
returns-in_err-domain-in-Err-KindIsNs-clause-refused c =
    no_domain _ _ _ _ c.from_residual.result (c.bytes.ensures.kind_is_ns.0 (c.in-Err-KindIsNs.is ∙ ap Err c.in-Err-KindIsNs.field-0-is)) c.from_residual.ensures.1
    c.in_err-domain-in-Err-KindIsNs.ensures
