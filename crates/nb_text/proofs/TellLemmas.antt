-- Two texts that are equal: where they are cut, and what the pieces tell.
use Rattle.std.proofs.Common.{◌≡◌, ◌==◌, ℕ, ◌+◌, ◌*◌, false, ◌<◌, List, [], ◌∷◌, ◌++◌, length, refl, sym, subst, ap, ap₂, ◌∙◌, append_assoc, arith, eq-eqb}
use Rattle.std.specs.List.{AllByRecursion, flat_map}
use Rattle.std.proofs.lemmas.List.{append_cancel_left}
use Rattle.nb_text.specs.Fields.{IsVisible}
use Rattle.nb_text.proofs.FieldLemmas.{IsSeen}

-- ---- rows

-- a character amid a row
pub amid : (P : ℕ → Type 0) (xs ys : List ℕ) (c : ℕ) → AllByRecursion P (xs ++ c ∷ ys) → P c
amid P [] ys c a = a.0
amid P (x ∷ xs) ys c a = amid P xs ys c a.1

pub all_weaker : (P Q : ℕ → Type 0) (xs : List ℕ) → AllByRecursion P xs → ((c : ℕ) → P c → Q c) → AllByRecursion Q xs
all_weaker P Q [] h each = tt
all_weaker P Q (x ∷ xs) h each = (each x h.0, all_weaker P Q xs h.1 each)

-- ---- cuts

-- what may stand after a row of such characters: nothing, or another character
abbrev pub EndsRow : (ℕ → Type 0) → List ℕ → Type 0
EndsRow P [] = Unit {0}
EndsRow P (c ∷ rest) = ¬ P c

-- equal texts are cut after the row with which they begin
pub cut : (P : ℕ → Type 0) (xs ys r s : List ℕ) → AllByRecursion P xs → AllByRecursion P ys → EndsRow P r → EndsRow P s
    → xs ++ r ≡ ys ++ s → (xs ≡ ys) × (r ≡ s)
cut P [] [] r s a b p q e = (refl, e)
cut P [] (y ∷ ys) [] s a b p q e = absurd (cc)
cut P [] (y ∷ ys) (c ∷ r) s a b p q e = let same : y ≡ c = cc in absurd (p (subst P same b.0))
cut P (x ∷ xs) [] r [] a b p q e = absurd (cc)
cut P (x ∷ xs) [] r (c ∷ s) a b p q e = let same : x ≡ c = cc in absurd (q (subst P same a.0))
cut P (x ∷ xs) (y ∷ ys) r s a b p q e =
    let rest = cut P xs ys r s a.1 b.1 p q (cc) in
    (cc (rest.0), rest.1)

-- what may stand after a field: nothing, a space, or the end of a line
abbrev pub EndsField : List ℕ → Type 0
EndsField [] = Unit {0}
EndsField (c ∷ rest) = c < 33

pub ends_both : (xs ys : List ℕ) → EndsField xs → EndsField ys → EndsField (xs ++ ys)
ends_both [] ys a b = b
ends_both (x ∷ xs) ys a b = a

ends_row : (xs : List ℕ) → EndsField xs → EndsRow IsVisible xs
ends_row [] h = tt
ends_row (c ∷ xs) h = λ seen. let low = seen.0 in omega (arith, low, h)

-- ---- what texts tell

-- where equal texts begin with these, F holds, and what stands after them is equal
pub record Tells (xs ys : List ℕ) (F : Type 0) : Type 0 where
  pub told : (r s : List ℕ) → EndsField r → EndsField s → xs ++ r ≡ ys ++ s → F × (r ≡ s)

-- a space, and the end of a line
pub space : 32 < 33
space = omega arith

pub feed : 10 < 33
feed = omega arith

-- what is told of whole texts
pub tells_whole : {F : Type 0} {xs ys : List ℕ} → Tells xs ys F → xs ≡ ys → F
tells_whole {F} {xs} {ys} t e = (t.told [] [] tt tt (ap (λ (text : List ℕ). text ++ []) e)).0

-- a field
pub seen_tells : {F : Type 0} (xs ys : List ℕ) → IsSeen xs → IsSeen ys → (xs ≡ ys → F) → Tells xs ys F
seen_tells {F} xs ys a b told = record {
  told = λ r s p q e. let parts = cut IsVisible xs ys r s a b (ends_row r p) (ends_row s q) e in (told parts.0, parts.1);
}

-- a text, and then another, of which more may be known by the first
pub both_tell : {F G : Type 0} {xs ys us vs : List ℕ} → Tells xs ys F → (F → Tells us vs G) → EndsField us → EndsField vs
    → Tells (xs ++ us) (ys ++ vs) (F × G)
both_tell {F} {G} {xs} {ys} {us} {vs} first second p q = record {
  told = λ r s a b e.
      let whole : xs ++ (us ++ r) ≡ ys ++ (vs ++ s) = sym (append_assoc xs us r) ∙ e ∙ append_assoc ys vs s in
      let front = first.told (us ++ r) (vs ++ s) (ends_both us r p a) (ends_both vs s q b) whole in
      let back = (second front.0).told r s a b front.1 in
      ((front.0, back.0), back.1);
}

-- the same text, and then one that tells
pub after_tells : {F : Type 0} {xs ys : List ℕ} (same : List ℕ) → Tells xs ys F → Tells (same ++ xs) (same ++ ys) F
after_tells {F} {xs} {ys} same t = record {
  told = λ r s a b e.
      t.told r s a b (append_cancel_left same (xs ++ r) (ys ++ s) (sym (append_assoc same xs r) ∙ e ∙ append_assoc same ys s));
}

-- a field after its name, and then more
pub field_then : {F G : Type 0} {xs ys us vs : List ℕ} (name : List ℕ) → Tells xs ys F → Tells us vs G → EndsField us → EndsField vs
    → Tells (name ++ (xs ++ us)) (name ++ (ys ++ vs)) (F × G)
field_then {F} {G} {xs} {ys} {us} {vs} name first second p q = after_tells name (both_tell first (λ _. second) p q)

-- the same text tells nothing
pub same_tells : (xs ys : List ℕ) → xs ≡ ys → Tells xs ys (Unit {0})
same_tells xs ys same = record {
  told = λ r s a b e. (tt, append_cancel_left xs r s (e ∙ ap (λ (text : List ℕ). text ++ s) (sym same)));
}

-- the first character and the third, by which words are told apart
abbrev mark : List ℕ → ℕ
mark [] = 0
mark (a ∷ []) = 0
mark (a ∷ b ∷ []) = 0
mark (a ∷ b ∷ c ∷ rest) = a * 256 + c

pub differ : (xs ys : List ℕ) → xs ≡ ys → (mark xs == mark ys) ≡ false → ⊥
differ xs ys e h = let same = eq-eqb (mark xs) (mark ys) (ap mark e) in cc

-- texts of which the words differ are never equal
pub differ_tells : {F : Type 0} (xs ys : List ℕ) → ((r s : List ℕ) → (mark (xs ++ r) == mark (ys ++ s)) ≡ false) → Tells xs ys F
differ_tells {F} xs ys h = record { told = λ r s p q e. absurd (differ (xs ++ r) (ys ++ s) e (h r s)) }

-- what follows from what is told
pub tells_then : {F G : Type 0} {xs ys : List ℕ} → Tells xs ys F → (F → G) → Tells xs ys G
tells_then {F} {G} {xs} {ys} t then = record {
  told = λ r s a b e. let h = t.told r s a b e in (then h.0, h.1);
}

-- the other way round
pub turned : {F : Type 0} {xs ys : List ℕ} → Tells xs ys F → Tells ys xs F
turned {F} {xs} {ys} t = record {
  told = λ r s p q e. let h = t.told s r q p (sym e) in (h.0, sym h.1);
}

-- texts that tell, each of which may stand after a field
pub record TellsAfter (xs ys : List ℕ) (F : Type 0) : Type 0 where
  pub tells : Tells xs ys F
  pub here : EndsField xs
  pub there : EndsField ys

pub both_after : {F G : Type 0} {xs ys us vs : List ℕ} → TellsAfter xs ys F → TellsAfter us vs G → TellsAfter (xs ++ us) (ys ++ vs) (F × G)
both_after {F} {G} {xs} {ys} {us} {vs} a b = record {
  tells = both_tell a.tells (λ _. b.tells) b.here b.there;
  here = ends_both xs us a.here b.here;
  there = ends_both ys vs a.there b.there;
}

-- items of which each has a text that tells it, as many here as there
pub each_after : {A : Type 0} (P : A → Type 0) (f : A → List ℕ) (xs ys : List A) → length xs ≡ length ys
    → AllByRecursion P xs → AllByRecursion P ys → ((x : A) → EndsField (f x)) → ((x y : A) → P x → P y → Tells (f x) (f y) (x ≡ y))
    → TellsAfter (flat_map f xs) (flat_map f ys) (xs ≡ ys)
each_after {A} P f [] [] size a b ends each = record { tells = record { told = λ r s p q e. (refl, e) }; here = tt; there = tt }
each_after {A} P f [] (y ∷ ys) size a b ends each = absurd (omega arith)
each_after {A} P f (x ∷ xs) [] size a b ends each = absurd (omega arith)
each_after {A} P f (x ∷ xs) (y ∷ ys) size a b ends each =
    let first : TellsAfter (f x) (f y) (x ≡ y) = record { tells = each x y a.0 b.0; here = ends x; there = ends y } in
    let all = both_after first (each_after P f xs ys (omega arith) a.1 b.1 ends each) in
    record { tells = tells_then all.tells (λ h. ap₂ (λ (z : A) (zs : List A). z ∷ zs) h.0 h.1); here = all.here; there = all.there }
