use Rattle.std.specs.Prelude.{IfNone, IfOk, IsOkAnd, IsSomeAnd, ◌⊎◌}
use Rattle.nbt_usage.proofs.Common.{List, string_bytes, subst, ℕ, ◌∙◌, ◌∷◌, ◌≡◌}
use Rattle.nbt_usage.specs.Refusals.{HasNone}
use Rattle.nbt_usage.proofs.HelpWords.{asks, if_same, joined, on_err}
use Rattle.nbt_usage.proofs.advice.asked.Goals as goal

pub returns-in_err-text-in-Some-clause-err : goal.returns-in_err-text-in-Some-clause-err
returns-in_err-text-in-Some-clause-err c = on_err c.from_residual.result (asks _ _ c.in-Some.ensures.found)

pub returns-in_ok-text-in-Some-clause-unknown : goal.returns-in_ok-text-in-Some-clause-unknown
returns-in_ok-text-in-Some-clause-unknown c program text rest are =
    subst (λ (t : List ℕ). IfOk c.refusal_in_any_case-in-Some.result (λ found. IfNone found (HasNone t c.args.refusals.now)))
    (c.as_str-in-Some.ensures.value ∙ c.in_ok-text-in-Some.ensures.ok ∙ joined string_bytes _ _ c.in-Some.texts.now program (text ∷ rest) (cc c.in-Some.texts-is) c.in-Some.ensures.found are)
    c.refusal_in_any_case-in-Some.ensures.unknown

pub returns-in_ok-text-in-Some-clause-same : goal.returns-in_ok-text-in-Some-clause-same
returns-in_ok-text-in-Some-clause-same c program text rest are =
    if_same _ c.refusal_in_any_case-in-Some.result
    (subst (λ (t : List ℕ). HasNone t c.args.refusals.now
    ⊎ IsOkAnd c.refusal_in_any_case-in-Some.result (λ found. IsSomeAnd found (λ refusal. refusal.now.words.now ≡ t)))
    (c.as_str-in-Some.ensures.value ∙ c.in_ok-text-in-Some.ensures.ok ∙ joined string_bytes _ _ c.in-Some.texts.now program (text ∷ rest) (cc c.in-Some.texts-is) c.in-Some.ensures.found are)
    c.refusal_in_any_case-in-Some.ensures.same)
