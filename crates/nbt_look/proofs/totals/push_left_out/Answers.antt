use Rattle.std.proofs.Common.{◌≡◌, ◌++◌, ◌∙◌, ℕ, List, ap, append_assoc}
use Rattle.std.proofs.lemmas.Result.{on_ok_weaker}
use Rattle.nbt_look.proofs.totals.push_left_out.Goals as goal

-- three texts, one after another
joined : (t0 t1 t2 t3 a b c : List ℕ) → t1 ≡ t0 ++ a → t2 ≡ t1 ++ b → t3 ≡ t2 ++ c → t3 ≡ t0 ++ (a ++ (b ++ c))
joined t0 t1 t2 t3 a b c first second third =
    third ∙ ap (λ t. t ++ c) (second ∙ ap (λ t. t ++ b) first) ∙ append_assoc (t0 ++ a) b c ∙ append_assoc t0 a (b ++ c)

pub returns : goal.returns
returns c =
    on_ok_weaker c.push_reasons.result (joined _ _ _ _ _ _ _ c.in_ok-push_decimal.ensures.added c.in_ok-push_str.ensures.bytes) c.push_reasons.ensures
