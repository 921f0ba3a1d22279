-- Lemmas on tests of equality, for the laws of traits here and in the crates above: a test of each part decides
-- whether the whole is equal.
use Rattle.std.proofs.Common.{◌≡◌, ◌==◌, ◌&&◌, ℕ, Bool, List, ap, sym, ◌∙◌}
use Rattle.std.proofs.lemmas.Bool.Decides.{Decides-and}
use Rattle.std.specs.Bool.{Decides}
use Rattle.std.specs.Cmp.{unsigned_Decides}
use Rattle.std.specs.Cmp.Lexicographic.{pointwise, pointwise_decides}

-- what a test of a view decides, where the view gives the value back
pub decided_by_view : {A B : Type 0} {test : B → B → Bool} (view : A → B) (make : B → A) → ((a : A) → make (view a) ≡ a)
    → ((x y : B) → Decides (test x y) (x ≡ y)) → (a b : A) → Decides (test (view a) (view b)) (a ≡ b)
decided_by_view view make back decides a b = (
  λ h. sym (back a) ∙ ap make ((decides (view a) (view b)).0 h) ∙ back b,
  λ e. (decides (view a) (view b)).1 (ap view e),
)

-- two tests, each of one part of a pair
pub decided_both : {A B : Type 0} {first : A → A → Bool} {second : B → B → Bool} → ((a b : A) → Decides (first a b) (a ≡ b))
    → ((a b : B) → Decides (second a b) (a ≡ b)) → (x y : A × B) → Decides (first x.0 y.0 && second x.1 y.1) (x ≡ y)
decided_both one two x y =
    let both = Decides-and _ _ (one x.0 y.0) (two x.1 y.1) in (
      λ h. let parts = both.0 h in λ i. (parts.0 i, parts.1 i),
      λ e. both.1 (ap (λ (p : _ × _). p.0) e, ap (λ (p : _ × _). p.1) e),
    )

pub bytes_decide : (xs ys : List ℕ) → Decides (pointwise ◌==◌ xs ys) (xs ≡ ys)
bytes_decide = pointwise_decides unsigned_Decides
