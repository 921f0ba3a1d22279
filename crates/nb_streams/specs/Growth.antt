-- What a call that adds to a text leaves of what stood in it, whatever it answers (our choice).
use Rattle.std.specs.Prelude.{◌≡◌, ℕ, List, ◌++◌, []}
use Rattle.std.proofs.Common.{◌∙◌, ap, sym, subst, append_assoc, append-nil}

-- the text is this front, and some bytes or none after it
pub record IsFrontOf (front text : List ℕ) : Type 0 where
  pub rest : List ℕ
  pub is : text ≡ front ++ rest

-- OnlyAdds old new: each front of the old text is one of the new, the old text itself too
abbrev pub OnlyAdds : List ℕ → List ℕ → Type 0
OnlyAdds old new = (front : List ℕ) → IsFrontOf front old → IsFrontOf front new

-- ---- facts of fronts of texts

-- a front of a text is one of a longer text too
pub front_stays : (front old rest : List ℕ) → IsFrontOf front old → IsFrontOf front (old ++ rest)
front_stays front old rest f =
    record { rest = f.rest ++ rest; is = ap (λ (t : List ℕ). t ++ rest) f.is ∙ append_assoc front f.rest rest }

-- a text is a front of itself
pub own_front : (text : List ℕ) → IsFrontOf text text
own_front text = record { rest = []; is = sym (append-nil text) }

-- a text that has another as a front has each front of it too
pub only_adds : (old new : List ℕ) → IsFrontOf old new → OnlyAdds old new
only_adds old new whole front f = subst (IsFrontOf front) (sym whole.is) (front_stays front old whole.rest f)
