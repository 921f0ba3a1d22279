-- Joins of slots are commutative, associative and idempotent, whatever the facts are, from what their
-- agreement and their union meet.
use Rattle.std.proofs.Common.{◌≡◌, ◌&&◌, Bool, true, false, cond, refl, sym, ◌∙◌, ap}
use Rattle.std.proofs.lemmas.Bool.{true≢false, and_from, and_parts}
use Rattle.std.specs.Cmp.{both_ways}
use Rattle.nb_entries.specs.Maps.{Slot, Spoilt, Held, join_slot, OnHeld}

-- what makes facts that agree a union
pub record Unites {X : Type 0} (agree : X → X → Bool) (together : X → X → X) : Type 0 where
  -- agreement goes both ways
  pub turned : (a b : X) → agree a b ≡ true → agree b a ≡ true
  -- two that agree say the same, either first
  pub same : (a b : X) → agree a b ≡ true → together a b ≡ together b a
  pub regroup : (a b c : X) → together (together a b) c ≡ together a (together b c)
  pub once : (a : X) → together a a ≡ a
  -- what agrees with the union of two that agree is what agrees with each
  pub left : (a b c : X) → agree a b ≡ true → agree (together a b) c ≡ true → agree a c ≡ true
  pub right : (a b c : X) → agree a b ≡ true → agree (together a b) c ≡ true → agree b c ≡ true
  pub both : (a b c : X) → agree a c ≡ true → agree b c ≡ true → agree (together a b) c ≡ true

module _ {X : Type 0} {agree : X → X → Bool} {together : X → X → X} (u : Unites agree together) where
  pub agree-comm : (a b : X) → agree a b ≡ agree b a
  agree-comm a b = both_ways _ _ (u.turned a b) (u.turned b a)

  chosen : (a b : X) (p : Bool) → agree a b ≡ p → ◌≡◌ {A = Slot X} (cond p (Held (together a b)) Spoilt) (cond p (Held (together b a)) Spoilt)
  chosen a b true e = ap Held (u.same a b e)
  chosen a b false e = refl

  pub join-comm : (s t : Slot X) → join_slot agree together s t ≡ join_slot agree together t s
  join-comm Spoilt Spoilt = refl
  join-comm Spoilt (Held b) = refl
  join-comm (Held a) Spoilt = refl
  join-comm (Held a) (Held b) = chosen a b (agree a b) refl ∙ ap (λ p. cond p (Held (together b a)) Spoilt) (agree-comm a b)

  -- a slot whose facts agree with themselves, joined with itself, is itself
  pub join-idem : (s : Slot X) → OnHeld (λ a. agree a a ≡ true) s → join_slot agree together s s ≡ s
  join-idem Spoilt f = refl
  join-idem (Held a) f = ap (λ p. cond p (Held (together a a)) Spoilt) f ∙ ap Held (u.once a)

  -- both groupings, by which of the neighbours agree
  sides : (a b c : X) (p q : Bool) → agree a b ≡ p → agree b c ≡ q → join_slot agree together (cond p (Held (together a b)) Spoilt) (Held c) ≡ join_slot agree together (Held a) (cond q (Held (together b c)) Spoilt)
  sides a b c false false e f = refl
  sides a b c false true e f =
      sym (ap (λ r. cond r (Held (together a (together b c))) Spoilt) (both_ways (agree a (together b c)) false
      (λ h. sym e ∙ u.turned b a (u.left b c a f (u.turned _ _ h))) (λ h. absurd (true≢false (sym h)))))
  sides a b c true false e f =
      ap (λ r. cond r (Held (together (together a b) c)) Spoilt) (both_ways (agree (together a b) c) false
      (λ h. sym f ∙ u.right a b c e h) (λ h. absurd (true≢false (sym h))))
  sides a b c true true e f =
      ap (λ s. cond (agree (together a b) c) (Held s) Spoilt) (u.regroup a b c)
      ∙ ap (λ r. cond r (Held (together a (together b c))) Spoilt) (both_ways (agree (together a b) c) (agree a (together b c))
      (λ h. u.turned _ _ (u.both b c a (u.turned a b e) (u.turned a c (u.left a b c e h))))
      (λ h. u.both a b c (u.turned c a (u.right b c a f (u.turned _ _ h))) f))

  pub join-assoc : (s t r : Slot X) → join_slot agree together (join_slot agree together s t) r ≡ join_slot agree together s (join_slot agree together t r)
  join-assoc Spoilt t r = refl
  join-assoc (Held a) Spoilt r = refl
  join-assoc (Held a) (Held b) Spoilt = spoilt (agree a b)
    where
      spoilt : (p : Bool) → join_slot agree together (cond p (Held (together a b)) Spoilt) Spoilt ≡ Spoilt
      spoilt true = refl
      spoilt false = refl
  join-assoc (Held a) (Held b) (Held c) = sides a b c (agree a b) (agree b c) refl refl

  -- a slot whose facts are well formed, joined with itself, is itself, where such facts agree with themselves
  pub idem_formed : {P : X → Type 0} → ((a : X) → P a → agree a a ≡ true) → (s : Slot X) → OnHeld P s → join_slot agree together s s ≡ s
  idem_formed f Spoilt h = refl
  idem_formed f (Held a) h = join-idem (Held a) (f a h)

  -- the union of two that agree with themselves and each other agrees with itself
  pub agree_together : (a b : X) → agree a a ≡ true → agree b b ≡ true → agree a b ≡ true → agree (together a b) (together a b) ≡ true
  agree_together a b aa bb ab =
      u.both a b (together a b)
      (u.turned _ _ (u.both a b a aa (u.turned a b ab)))
      (u.turned _ _ (u.both a b b ab bb))

  chosen_formed : (a b : X) (p : Bool) → agree a b ≡ p → agree a a ≡ true → agree b b ≡ true → OnHeld (λ c. agree c c ≡ true) (cond p (Held (together a b)) Spoilt)
  chosen_formed a b true e f g = agree_together a b f g e
  chosen_formed a b false e f g = tt

  -- the join of slots that agree with themselves is one
  pub join_formed : (s t : Slot X) → OnHeld (λ a. agree a a ≡ true) s → OnHeld (λ a. agree a a ≡ true) t → OnHeld (λ a. agree a a ≡ true) (join_slot agree together s t)
  join_formed Spoilt t f g = tt
  join_formed (Held a) Spoilt f g = tt
  join_formed (Held a) (Held b) f g = chosen_formed a b (agree a b) refl f g

  -- what agrees with a union of two that agree is what agrees with both
  pub agree_union : (x a b : X) → agree a b ≡ true → agree x (together a b) ≡ (agree x a && agree x b)
  agree_union x a b ab = both_ways _ _
      (λ h. and_from _ _
      (u.turned a x (u.left a b x ab (u.turned x (together a b) h)))
      (u.turned b x (u.right a b x ab (u.turned x (together a b) h))))
      (λ h. u.turned (together a b) x (u.both a b x (u.turned x a (and_parts _ _ h).0) (u.turned x b (and_parts _ _ h).1)))
