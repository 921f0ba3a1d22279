use Rattle.nbt_usage.proofs.Common.{[], ◌≡◌, ◌+◌, ◌<◌, ◌++◌, ◌∙◌, ℕ, List, ap, get_or, length, sym, take, flat_map_more, take_more, flat_map}
use Rattle.nbt_usage.specs.Refusals.{lines_by}
use Rattle.nbt_usage.proofs.advice.refusal_lines.Goals as goal

-- a turn that added the line of the next item
turn : {A : Type 0} (f : A → List ℕ) (xs : List A) (i : ℕ) (d : A) (old mid new : List ℕ) → i < length xs
    → mid ≡ old ++ flat_map f (take i xs) → new ≡ mid ++ f (get_or xs i d) → new ≡ old ++ flat_map f (take (i + 1) xs)
turn {A} f xs i d old mid new within before added =
    added ∙ ap (λ (t : List ℕ). t ++ f (get_or xs i d)) before ∙ flat_map_more f old (take i xs) (get_or xs i d)
    ∙ ap (λ (ys : List A). old ++ flat_map f ys) (sym (take_more xs i d within))

pub loop-refusal-preserved : goal.loop-refusal-preserved
loop-refusal-preserved c =
    turn (lines_by c.args.command.now) c.args.refusals.now c.loop-refusal.refusal-index _ [] _ _ c.loop-refusal-test.true c.loop-refusal.invariant
    c.in_ok-push_by.ensures
