use Rattle.std.proofs.Common.{◌∷◌, [], ◌++◌, ℕ, sym, ◌∙◌, ap}
use Rattle.nb_names.specs.NameText.{trimmed}
use Rattle.nb_names.proofs.WrittenLemmas.{trimmed-space, trimmed-other}
use Rattle.nb_names.proofs.text_writing.without_last_spaces.Goals as goal

pub returns-then-last-ne32 : goal.returns-then-last-ne32
returns-then-last-ne32 c =
    let whole = c.in-Some.ensures.cases.0 in
    whole ∙ sym (trimmed-other c.in-Some.front.now c.in-Some.last.now c.if-last-ne32.true) ∙ sym (ap trimmed whole) ∙ c.loop-last.invariant

pub loop-last-preserved : goal.loop-last-preserved
loop-last-preserved c =
    sym (trimmed-space c.in-Some.front.now)
    ∙ sym (ap trimmed (c.in-Some.ensures.cases.0 ∙ ap (λ (last : ℕ). c.in-Some.front.now ++ last ∷ []) c.if-last-ne32.false))
    ∙ c.loop-last.invariant
