-- Lemmas on the lines of a text, for proofs here and in the crates above.
use Rattle.std.proofs.Common.{◌≡◌, ◌≢◌, ◌<◌, ◌++◌, ℕ, zero, List, [], ◌∷◌, length, refl, sym, ap, ◌∙◌, subst, inl, inr, arith}
use Rattle.std.specs.Prelude.{Contains}
use Rattle.std.proofs.lemmas.Bool.{cases_eq}
use Rattle.std.proofs.lemmas.List.Elements.{Contains-append_right}
use Rattle.std.proofs.lemmas.Map.Made.{Contains-tail}
use Rattle.nb_streams.specs.Lines.{IsLine, CutInto, rest, line, with_rest, HasLines}

-- the two parts around the first byte of its kind are the only ones
pub one_split : (s : ℕ) (a b c d : List ℕ) → ¬ Contains a s → ¬ Contains c s → a ++ s ∷ b ≡ c ++ s ∷ d
    → (a ≡ c) × (b ≡ d)
one_split s [] b [] d h k e = (refl, cc)
one_split s [] b (y ∷ c) d h k e =
    let is : y ≡ s = cc in
    absurd (k (zero, omega arith, is))
one_split s (x ∷ a) b [] d h k e =
    let is : x ≡ s = cc in
    absurd (h (zero, omega arith, is))
one_split s (x ∷ a) b (y ∷ c) d h k e =
    let heads : x ≡ y = cc in
    let tails : a ++ s ∷ b ≡ c ++ s ∷ d = cc in
    let rec = one_split s a b c d (λ n. h (Contains-append_right (x ∷ []) a s n)) (λ n. k (Contains-append_right (y ∷ []) c s n)) tails in
    (cc, rec.1)

-- ---- lines, and what follows the last line feed

-- the lines of bytes, and what is left after the last line feed
pub record AnyCut (bytes : List ℕ) : Type 0 where
  pub lines : List (List ℕ)
  pub left : List ℕ
  pub cut : CutInto bytes lines left

cut_after : (b : ℕ) (bytes : List ℕ) (lines : List (List ℕ)) (left : List ℕ) → b ≢ 10 → CutInto bytes lines left
    → AnyCut (b ∷ bytes)
cut_after b _ _ _ differ (rest left clear) = record {
  lines = [];
  left = b ∷ left;
  cut = rest (b ∷ left) (λ h. clear (Contains-tail b left 10 differ h));
}
cut_after b _ _ _ differ (line l bytes left lines clear c) = record {
  lines = (b ∷ l) ∷ lines;
  left = left;
  cut = line (b ∷ l) bytes left lines (λ h. clear (Contains-tail b l 10 differ h)) c;
}

-- any bytes are cut into lines
pub any_cut : (bytes : List ℕ) → AnyCut bytes
any_cut [] = record { lines = []; left = []; cut = rest [] (λ h. omega (arith, h.1)) }
any_cut (b ∷ bytes) =
    let r = any_cut bytes in
    elim (cases_eq b 10) [
      | inl same ↦ record {
        lines = [] ∷ r.lines;
        left = r.left;
        cut = rw same (line [] bytes r.left r.lines (λ h. omega (arith, h.1)) r.cut);
      }
      | inr differ ↦ cut_after b bytes r.lines r.left differ r.cut
    ]

-- a line feed is among the bytes around it
feed_among : (front after : List ℕ) → Contains (front ++ 10 ∷ after) 10
feed_among front after = Contains-append_right front (10 ∷ after) 10 (zero, omega arith, refl)

-- equal bytes are cut into equal lines
same_cut : (bytes others left right : List ℕ) (lines more : List (List ℕ)) → bytes ≡ others → CutInto bytes lines left
    → CutInto others more right → (lines ≡ more) × (left ≡ right)
same_cut _ _ _ _ _ _ same (rest left clear) (rest right free) = (refl, same)
same_cut _ _ _ _ _ _ same (rest left clear) (line l bytes right more free c) =
    absurd (clear (subst (λ (bs : List ℕ). Contains bs 10) (sym same) (feed_among l bytes)))
same_cut _ _ _ _ _ _ same (line l bytes left lines clear c) (rest right free) =
    absurd (free (subst (λ (bs : List ℕ). Contains bs 10) same (feed_among l bytes)))
same_cut _ _ _ _ _ _ same (line l bytes left lines clear c) (line k others right more free d) =
    let parts = one_split 10 l bytes k others clear free same in
    let after = same_cut bytes others left right lines more parts.1 c d in
    (cc (parts.0, after.0), after.1)

pub one_cut : (bytes : List ℕ) (lines more : List (List ℕ)) (left right : List ℕ) → CutInto bytes lines left
    → CutInto bytes more right → (lines ≡ more) × (left ≡ right)
one_cut bytes lines more left right c d = same_cut bytes bytes left right lines more refl c d

-- ---- the lines of a whole text

with_rest_cons : (l : List ℕ) (lines : List (List ℕ)) (left : List ℕ) → with_rest (l ∷ lines) left ≡ l ∷ with_rest lines left
with_rest_cons l lines [] = refl
with_rest_cons l lines (b ∷ left) = refl

-- a text without bytes has no line
pub no_lines : (text : List ℕ) → text ≡ [] → HasLines text []
no_lines text empty = rw empty (record { finished = []; last = []; cut = rest [] (λ h. omega (arith, h.1)); are = refl })

-- other bytes without a line feed are one line
pub one_line : (text : List ℕ) → IsLine text → 0 < length text → HasLines text (text ∷ [])
one_line [] clear some = absurd (omega (arith, some))
one_line (b ∷ text) clear some = record { finished = []; last = b ∷ text; cut = rest (b ∷ text) clear; are = refl }

-- a line stands before those of what follows its line feed
pub first_line : (text l after : List ℕ) (lines : List (List ℕ)) → text ≡ l ++ 10 ∷ after → IsLine l
    → HasLines after lines → HasLines text (l ∷ lines)
first_line text l after lines parts clear h = record {
  finished = l ∷ h.finished;
  last = h.last;
  cut = subst (λ (bytes : List ℕ). CutInto bytes (l ∷ h.finished) h.last) (sym parts) (line l after h.last h.finished clear h.cut);
  are = ap (λ ls. l ∷ ls) h.are ∙ sym (with_rest_cons l h.finished h.last);
}

-- any text has lines
pub any_lines : (text : List ℕ) → (lines : List (List ℕ)) × HasLines text lines
any_lines text =
    let c = any_cut text in
    (with_rest c.lines c.left, record { finished = c.lines; last = c.left; cut = c.cut; are = refl })

-- and no other ones
pub same_lines : (text : List ℕ) (lines more : List (List ℕ)) → HasLines text lines → HasLines text more → lines ≡ more
same_lines text lines more h k =
    let parts = one_cut text h.finished k.finished h.last k.last h.cut k.cut in
    h.are ∙ ap (λ (ls : List (List ℕ)). with_rest ls h.last) parts.0 ∙ ap (with_rest k.finished) parts.1 ∙ sym k.are
