use Rattle.std.proofs.Common.{◌≡◌, ◌++◌, ◌∙◌, ℕ, Bool, List, ap, append_assoc}
use Rattle.std.proofs.lemmas.Result.{on_ok_weaker}
use Rattle.nbt_look.specs.Totals.{without_text}
use Rattle.nbt_look.proofs.totals.push_last.Goals as goal

-- two texts, one after another
joined : (t0 t1 t2 a : List ℕ) (w v : Bool) (f : Bool → List ℕ) → w ≡ v → t1 ≡ t0 ++ a → t2 ≡ t1 ++ f w → t2 ≡ t0 ++ (a ++ f v)
joined t0 t1 t2 a w v f same first last =
    last ∙ ap (λ (x : Bool). t1 ++ f x) same ∙ ap (λ (t : List ℕ). t ++ f v) first ∙ append_assoc t0 a (f v)

pub returns : goal.returns
returns c =
    on_ok_weaker c.push_without.result
    (λ is. joined _ _ _ _ _ _ (λ (x : Bool). without_text x c.args.listing.now.counts) c.wants_all.ensures c.in_ok-push_counts.ensures is)
    c.push_without.ensures
