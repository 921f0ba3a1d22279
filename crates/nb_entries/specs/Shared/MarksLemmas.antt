-- Marks: the end that there is, and the greater promise. Their union is one in the sense of SlotLemmas, and each law of it
-- is said once, of all marks; what covers and tables are proved by names none of them.
use Rattle.std.proofs.Common.{◌≡◌, ◌==◌, ◌⊎◌, inl, inr, ◌<◌, ◌≤◌, ℕ, Bool, true, max, Option, Some, None, refl, sym, subst, ◌∙◌, ap, arith, Decides}
use Rattle.std.proofs.lemmas.Bool.{true≢false, cases_lt, leb-true, le-leb, ltb-true, lt-ltb, eqb-true, eq-eqb, and_from, and_parts}
use Rattle.std.proofs.lemmas.Option.{none-some, same_Some}
use Rattle.std.specs.Option.{option_eq}
use Rattle.std.specs.Cmp.{unsigned_Decides}
use Rattle.nb_datagram.specs.Fragment.{Core, reach}
use Rattle.nb_datagram.specs.declared.limits.TheConstants.{MAX_LENGTH}
use Rattle.nb_entries.specs.Maps.{first_of}
use Rattle.nb_entries.specs.Marks.{Marks, no_marks, MarksFit, MarksBelow, marks_of, marks_together, marks_agree, marks_lie_below, same_where, ends_agree, greater, is_before, MarksUpTo, marks_up_to, ends_by, same_marks, FitMarks}
use Rattle.nb_entries.specs.Shared.MapsLemmas.{at-comm, at-assoc, at-idem}
use Rattle.nb_entries.specs.Shared.PlacedLemmas.{promise_of_decides, end_of_decides}

-- ---- the value that there is, of two that are one where there are both

pub same_at : (o : Option ℕ) (x y : ℕ) → same_where o x ≡ true → o ≡ Some y → x ≡ y
same_at None x y h e = absurd (none-some y e)
same_at (Some z) x y h e = sym (eqb-true z x h) ∙ same_Some z y e

pub at_same : (o : Option ℕ) (x : ℕ) → ((y : ℕ) → o ≡ Some y → x ≡ y) → same_where o x ≡ true
at_same None x h = refl
at_same (Some z) x h = eq-eqb z x (sym (h z refl))

ends_are : (o p : Option ℕ) → ends_agree o p ≡ true → (m n : ℕ) → o ≡ Some m → p ≡ Some n → m ≡ n
ends_are None p h m n e f = absurd (none-some m e)
ends_are (Some k) p h m n e f = sym (same_Some k m e) ∙ same_at p k n h f

are_ends : (o p : Option ℕ) → ((m n : ℕ) → o ≡ Some m → p ≡ Some n → m ≡ n) → ends_agree o p ≡ true
are_ends None p h = refl
are_ends (Some k) p h = at_same p k (λ y e. h k y refl e)

pub first_left : (o p : Option ℕ) (n : ℕ) → o ≡ Some n → first_of o p ≡ Some n
first_left None p n e = absurd (none-some n e)
first_left (Some k) p n e = e

pub first_right : (o p : Option ℕ) → ((m n : ℕ) → o ≡ Some m → p ≡ Some n → m ≡ n) → (n : ℕ) → p ≡ Some n → first_of o p ≡ Some n
first_right None p same n e = e
first_right (Some k) p same n e = ap Some (same k n refl e)

pub first_either : (o p : Option ℕ) (n : ℕ) → first_of o p ≡ Some n → (o ≡ Some n) ⊎ (p ≡ Some n)
first_either None p n e = inr e
first_either (Some k) p n e = inl e

-- two that agree, either first
pub either_first : (o p : Option ℕ) → ((m n : ℕ) → o ≡ Some m → p ≡ Some n → m ≡ n) → first_of o p ≡ first_of p o
either_first None None same = refl
either_first None (Some y) same = refl
either_first (Some x) None same = refl
either_first (Some x) (Some y) same = ap Some (same x y refl refl)

pub first_alone : {X : Type 0} (o : Option X) → first_of o None ≡ o
first_alone None = refl
first_alone (Some x) = refl

pub first_of_three : (o p r : Option ℕ) → first_of (first_of o p) r ≡ first_of o (first_of p r)
first_of_three None p r = refl
first_of_three (Some x) p r = refl

pub first_itself : (o : Option ℕ) → first_of o o ≡ o
first_itself None = refl
first_itself (Some x) = refl

-- a value that is held adds nothing
pub first_held : (o p : Option ℕ) → ((x : ℕ) → p ≡ Some x → o ≡ Some x) → first_of o p ≡ o
first_held (Some x) p h = refl
first_held None None h = refl
first_held None (Some y) h = sym (h y refl)

pub one_value : (o : Option ℕ) (x y : ℕ) → o ≡ Some x → o ≡ Some y → x ≡ y
one_value o x y e f = same_Some x y (sym e ∙ f)

-- ---- the greater of two numbers

max_either : (m n : ℕ) → (max m n ≡ m) ⊎ (max m n ≡ n)
max_either m n = elim (cases_lt m n) [
  | inl h ↦ inr (omega (arith, h))
  | inr h ↦ inl (omega (arith, h))
]

-- ---- the greater of two promises

greater-comm : (o p : Option ℕ) → greater o p ≡ greater p o
greater-comm = at-comm max (λ m n. omega arith)

greater-assoc : (o p q : Option ℕ) → greater (greater o p) q ≡ greater o (greater p q)
greater-assoc = at-assoc max (λ m n k. omega arith)

greater-itself : (o : Option ℕ) → greater o o ≡ o
greater-itself o = at-idem max o (λ m _. omega arith)

greater-alone : (o : Option ℕ) → greater o None ≡ o
greater-alone None = refl
greater-alone (Some m) = refl

-- it is one of them
pub greater_either : (o p : Option ℕ) (r : ℕ) → greater o p ≡ Some r → (o ≡ Some r) ⊎ (p ≡ Some r)
greater_either None p r e = inr e
greater_either (Some m) None r e = inl e
greater_either (Some m) (Some n) r e = elim (max_either m n) [
  | inl h ↦ inl (ap Some (sym h) ∙ e)
  | inr h ↦ inr (ap Some (sym h) ∙ e)
]

-- and neither is greater
abbrev pub IsPromised : Option ℕ → Option ℕ → Type 0
IsPromised own other = (r : ℕ) → other ≡ Some r → (s : ℕ) × (own ≡ Some s) × (r ≤ s)

pub greater_left : (o p : Option ℕ) → IsPromised (greater o p) o
greater_left None p r e = absurd (none-some r e)
greater_left (Some m) None r e = (m, refl, (let same = same_Some m r e in omega (arith, same)))
greater_left (Some m) (Some n) r e = (max m n, refl, (let same = same_Some m r e in omega (arith, same)))

pub greater_right : (o p : Option ℕ) → IsPromised (greater o p) p
greater_right o p = subst (λ q. IsPromised q p) (greater-comm p o) (greater_left p o)

-- ---- promises below a place

before_is : (o : Option ℕ) (n : ℕ) → is_before o n ≡ true → (r : ℕ) → o ≡ Some r → r < n
before_is None n h r e = absurd (none-some r e)
before_is (Some m) n h r e = let less = ltb-true m n h in let same = same_Some m r e in omega (arith, less, same)

before_from : (o : Option ℕ) (n : ℕ) → ((r : ℕ) → o ≡ Some r → r < n) → is_before o n ≡ true
before_from None n h = refl
before_from (Some m) n h = lt-ltb m n (h m refl)

-- ---- marks that don't contradict each other

pub marks_fit_decides : (a b : Marks) → Decides (marks_agree a b) (MarksFit a b)
marks_fit_decides a b = (ends_are a.end b.end, are_ends a.end b.end)

pub marks_turned : (a b : Marks) → MarksFit a b → MarksFit b a
marks_turned a b f m n e g = sym (f n m g e)

-- the end of two is that of the second, if it has one
pub end_right : (a b : Marks) → MarksFit a b → (n : ℕ) → b.end ≡ Some n → (marks_together a b).end ≡ Some n
end_right a b f = first_right a.end b.end f

pub marks_left : (a b c : Marks) → MarksFit (marks_together a b) c → MarksFit a c
marks_left a b c f m n e g = f m n (first_left _ _ m e) g

pub marks_right : (a b c : Marks) → MarksFit a b → MarksFit (marks_together a b) c → MarksFit b c
marks_right a b c ab f m n e g = f m n (end_right a b ab m e) g

pub marks_both : (a b c : Marks) → MarksFit a c → MarksFit b c → MarksFit (marks_together a b) c
marks_both a b c ac bc m n e g = elim (first_either _ _ m e) [ inl h ↦ ac m n h g | inr h ↦ bc m n h g ]

-- ---- what two say together

pub marks_comm : (a b : Marks) → MarksFit a b → marks_together a b ≡ marks_together b a
marks_comm a b f = let end = either_first _ _ f in let promise = greater-comm a.promise b.promise in λ i. record { end = end i; promise = promise i }

pub marks_assoc : (a b c : Marks) → marks_together (marks_together a b) c ≡ marks_together a (marks_together b c)
marks_assoc a b c = let end = first_of_three a.end b.end c.end in let promise = greater-assoc a.promise b.promise c.promise in λ i. record { end = end i; promise = promise i }

pub marks_idem : (a : Marks) → marks_together a a ≡ a
marks_idem a = let end = first_itself a.end in let promise = greater-itself a.promise in λ i. record { end = end i; promise = promise i }

pub marks_alone : (a : Marks) → marks_together a no_marks ≡ a
marks_alone a = let end = first_alone a.end in let promise = greater-alone a.promise in λ i. record { end = end i; promise = promise i }

-- ---- marks below a place

pub marks_below_decides : (n : ℕ) (m : Marks) → Decides (marks_lie_below n m) (MarksBelow n m)
marks_below_decides n m = (before_is m.promise n, before_from m.promise n)

pub marks_below_left : (n : ℕ) (a b : Marks) → MarksBelow n (marks_together a b) → MarksBelow n a
marks_below_left n a b h r e = let w = greater_left a.promise b.promise r e in let below = h w.0 w.1 in let less = w.2 in omega (arith, below, less)

pub marks_below_right : (n : ℕ) (a b : Marks) → MarksBelow n (marks_together a b) → MarksBelow n b
marks_below_right n a b h r e = let w = greater_right a.promise b.promise r e in let below = h w.0 w.1 in let less = w.2 in omega (arith, below, less)

pub marks_below_both : (n : ℕ) (a b : Marks) → MarksBelow n a → MarksBelow n b → MarksBelow n (marks_together a b)
marks_below_both n a b h k r e = elim (greater_either a.promise b.promise r e) [ inl f ↦ h r f | inr f ↦ k r f ]

-- ---- marks up to a place

ends_found : (n : ℕ) (o : Option ℕ) → ends_by n o ≡ true → (m : ℕ) → o ≡ Some m → m ≤ n
ends_found n None h m e = absurd (none-some m e)
ends_found n (Some k) h m e = let most = leb-true k n h in let same = same_Some k m e in omega (arith, most, same)

ends_from : (n : ℕ) (o : Option ℕ) → ((m : ℕ) → o ≡ Some m → m ≤ n) → ends_by n o ≡ true
ends_from n None h = refl
ends_from n (Some k) h = le-leb k n (h k refl)

pub up_to_decides : (n : ℕ) (m : Marks) → Decides (marks_up_to n m) (MarksUpTo n m)
up_to_decides n m = (
  λ h. record { ends = ends_found n m.end (and_parts _ _ h).0; promises = ends_found n m.promise (and_parts _ _ h).1 },
  λ h. and_from _ _ (ends_from n m.end h.ends) (ends_from n m.promise h.promises),
)

pub up_to_reach : (f : Core) (n : ℕ) → reach f ≤ n → MarksUpTo n (marks_of f)
up_to_reach f n h = record {
  ends = λ m e. (let at = ((end_of_decides f m).0 e).1 in omega (arith, h, at));
  promises = λ r e. (let at = ((promise_of_decides f r).0 e).1 in omega (arith, h, at));
}

pub up_to_both : (n : ℕ) (a b : Marks) → MarksUpTo n a → MarksUpTo n b → MarksUpTo n (marks_together a b)
up_to_both n a b p q = record {
  ends = λ m e. elim (first_either a.end b.end m e) [ inl h ↦ p.ends m h | inr h ↦ q.ends m h ];
  promises = λ r e. elim (greater_either a.promise b.promise r e) [ inl h ↦ p.promises r h | inr h ↦ q.promises r h ];
}

pub up_to_more : (n k : ℕ) (m : Marks) → n ≤ k → MarksUpTo n m → MarksUpTo k m
up_to_more n k m h s = record {
  ends = λ j e. (let most = s.ends j e in omega (arith, h, most));
  promises = λ r e. (let most = s.promises r e in omega (arith, h, most));
}

-- fields of two bytes have room for marks of a datagram
pub marks_fit : (m : Marks) → MarksUpTo MAX_LENGTH m → FitMarks m
marks_fit m s = record {
  end = λ n e. (let most = s.ends n e in omega (arith, most));
  promise = λ r e. (let most = s.promises r e in omega (arith, most));
}

-- ---- marks that are the same

-- two options are the same where their values are
pub options_decide : {X : Type 0} (E : X → X → Bool) → ((x y : X) → Decides (E x y) (x ≡ y)) → (o p : Option X) → Decides (option_eq E o p) (o ≡ p)
options_decide E d None None = (λ h. refl, λ e. refl)
options_decide E d None (Some y) = (λ h. absurd (true≢false (sym h)), λ e. absurd (none-some y e))
options_decide E d (Some x) None = (λ h. absurd (true≢false (sym h)), λ e. absurd (none-some x (sym e)))
options_decide E d (Some x) (Some y) = (λ h. ap Some ((d x y).0 h), λ e. (d x y).1 (same_Some x y e))

pub marks_decide : (a b : Marks) → Decides (same_marks a b) (a ≡ b)
marks_decide a b = (
  λ h. (let end = (options_decide ◌==◌ unsigned_Decides a.end b.end).0 (and_parts _ _ h).0 in
      let promise = (options_decide ◌==◌ unsigned_Decides a.promise b.promise).0 (and_parts _ _ h).1 in
      λ i. record { end = end i; promise = promise i }),
  λ e. and_from _ _ ((options_decide ◌==◌ unsigned_Decides a.end b.end).1 (ap (λ (m : Marks). m.end) e))
      ((options_decide ◌==◌ unsigned_Decides a.promise b.promise).1 (ap (λ (m : Marks). m.promise) e)),
)
