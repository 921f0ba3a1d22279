use Rattle.nb_calls.proofs.Common.{◌≡◌, ◌≤◌, length, sym, ap, ◌∙◌, inl, inr, Ok, Err, cases_lt, of_bytes, of_domain, record_of, NS, domain}
use Rattle.nb_service.specs.declared.classes.TheConstants.{IN}
use Rattle.nb_calls.specs.Responses.{plain, too_long}
use Rattle.nb_calls.proofs.service.record_of.Goals as goal

pub returns-in-Ok : goal.returns-in-Ok
returns-in-Ok c =
    let other : ¬ (c.args.answered.kind ≡ NS) = λ ns. let clash = sym c.in-Ok.is ∙ c.bytes.ensures.kind_is_ns.1 ns in absurd (cc (clash)) in
    let short : length c.args.contents.now ≤ 65535 = elim (cases_lt 65535 (length c.args.contents.now)) [
      | inl far ↦ let clash = sym c.in-Ok.is ∙ c.bytes.ensures.too_long.1 (other, far) in absurd (cc (clash))
      | inr short ↦ short
    ] in (
      of_bytes c.args.contents.now,
      plain other short,
      c.in-Ok.ensures.value
          ∙ ap (λ n. record_of n c.args.answered.kind IN c.args.answered.time_to_live (of_bytes c.args.contents.now)) c.to_domain.ensures,
    )

pub returns-in-Err-TooLong : goal.returns-in-Err-TooLong
returns-in-Err-TooLong c =
    let long = c.bytes.ensures.too_long.0 (c.in-Err-TooLong.is ∙ ap Err c.in-Err-TooLong.field-0-is) in too_long long.0 long.1

pub returns-in-Ok-domain_of : goal.returns-in-Ok-domain_of
returns-in-Ok-domain_of c =
    let ns = c.bytes.ensures.kind_is_ns.0 (c.in-Err-KindIsNs.is ∙ ap Err c.in-Err-KindIsNs.field-0-is) in (
      of_domain c.in-Ok-domain_of.domain,
      domain (Ok c.in-Ok-domain_of.domain) ns c.in-Ok-domain_of.ensures,
      rw ns (c.ns.ensures ∙ ap (λ n. record_of n _ IN c.args.answered.time_to_live (of_domain c.in-Ok-domain_of.domain)) c.to_domain-in-Ok-domain_of.ensures),
    )

pub returns-in-Err : goal.returns-in-Err
returns-in-Err c =
    let ns = c.bytes.ensures.kind_is_ns.0 (c.in-Err-KindIsNs.is ∙ ap Err c.in-Err-KindIsNs.field-0-is) in
    domain (Err c.in-Err.refusal) ns c.in-Err.ensures
