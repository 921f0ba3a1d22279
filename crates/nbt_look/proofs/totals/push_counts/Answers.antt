use Rattle.std.proofs.Common.{◌≡◌, ◌++◌, ◌∙◌, ℕ, Bool, List, ap, append_assoc}
use Rattle.std.proofs.lemmas.Result.{on_ok_weaker}
use Rattle.nbt_look.specs.Totals.{shown_text}
use Rattle.nbt_look.proofs.totals.push_counts.Goals as goal

-- three texts, one after another
joined : (t0 t1 t2 t3 a b : List ℕ) (w v : Bool) (f : Bool → List ℕ) → w ≡ v → t1 ≡ t0 ++ a → t2 ≡ t1 ++ b → t3 ≡ t2 ++ f w
    → t3 ≡ t0 ++ (a ++ (b ++ f v))
joined t0 t1 t2 t3 a b w v f same first second last =
    last ∙ ap (λ (x : Bool). t2 ++ f x) same ∙ ap (λ (t : List ℕ). t ++ f v) (second ∙ ap (λ (t : List ℕ). t ++ b) first)
    ∙ append_assoc (t0 ++ a) b (f v) ∙ append_assoc t0 a (b ++ f v)

pub returns : goal.returns
returns c =
    on_ok_weaker c.push_shown_count.result
    (λ is. joined _ _ _ _ _ _ _ _ (λ (x : Bool). shown_text x c.args.listing.now.shown) c.wants_all.ensures c.in_ok-push_packets.ensures
    c.in_ok-push_left_out.ensures is)
    c.push_shown_count.ensures
