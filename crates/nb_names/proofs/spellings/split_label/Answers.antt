use Rattle.std.proofs.Common.{◌<◌, ℕ, ◌∷◌, List, length, arith, inl, inr, sym, ◌∙◌, ap}
use Rattle.nb_names.proofs.SpellingLemmas.{none_spelled, some_spelled, spelling-not_empty}
use Rattle.nb_names.proofs.spellings.split_label.Goals as goal
use Rattle.nb_names.proofs.spellings.split_label.Goals.{then-size-eq0-via-then-size-eq0, then-size-eq0-via-else-size-eq0+then-rest-size}

pub returns-in_default-clause-split : goal.returns-in_default-clause-split
returns-in_default-clause-split c ls a e = absurd (spelling-not_empty ls (sym (ap length e) ∙ c.in_default.ensures.cases))

pub returns-then-size-eq0-clause-split : goal.returns-then-size-eq0-clause-split
returns-then-size-eq0-clause-split c ls a e =
    let is = sym c.in-Some.ensures.cases.0 ∙ e in
    elim c.then-size-eq0.branch [
      | then-size-eq0-via-then-size-eq0 w ↦ none_spelled ls _ _ a is (inl w.if-size-eq0.true)
      | then-size-eq0-via-else-size-eq0+then-rest-size w ↦ none_spelled ls _ _ a is (inr w.if-rest-size.true)
    ]

pub returns-clause-split : goal.returns-clause-split
returns-clause-split c ls a e =
    let is = sym c.in-Some.ensures.cases.0 ∙ e in
    let some : 0 < c.in-Some.size.now = omega arith in
    let split = some_spelled ls _ _ a is some in
    (split.0, split.1 ∙ ap (λ (x : List ℕ). x ∷ split.0) (sym c.split_at.ensures.front), c.split_at.ensures.back ∙ split.2)
