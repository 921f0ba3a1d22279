-- Which file's frame comes first.
use Rattle.std.proofs.Common.{◌≡◌, ◌∙◌, ◌⊎◌, inl, inr, ◌<◌, ◌≤◌, ◌+◌, ℕ, Bool, true, false, cond, List, length, slice_get, Option, Some, None, ap, refl, sym, subst, arith}
use Rattle.std.proofs.lemmas.Bool.{cases_eq, cases_lt}
use Rattle.std.proofs.lemmas.Bool.Decides.{nat_tests}
use Rattle.std.proofs.lemmas.Option.{slice_get_past}
use Rattle.nbt_look.specs.Sources.{IsFirst, NoneFirst, SourceValue, earlier_of, time_of}
use Rattle.nbt_look.specs.Merging.{comes_first}

pub record IsBestAt (sources : List SourceValue) (k at : ℕ) (time : Option ℕ) : Type 0 where
  pub within : at < k
  pub stands : time_of (slice_get sources at) ≡ Some time
  pub earlier : (i : ℕ) (other : Option ℕ) → i < at → time_of (slice_get sources i) ≡ Some other → comes_first other time ≡ false
  pub later : (i : ℕ) (other : Option ℕ) → at < i → i < k → time_of (slice_get sources i) ≡ Some other → comes_first time other ≡ true

abbrev pub IsBest : List SourceValue → ℕ → Option (ℕ × Option ℕ) → Type 0
IsBest sources k None = (i : ℕ) → i < k → time_of (slice_get sources i) ≡ None
IsBest sources k (Some best) = IsBestAt sources k best.0 best.1

-- where e comes before t, or not
falls_earlier : (other e t : Option ℕ) → comes_first other e ≡ false → comes_first e t ≡ false → comes_first other t ≡ false
falls_earlier None e t a b = absurd (cc a)
falls_earlier (Some x) None t a b = absurd (cc b)
falls_earlier (Some x) (Some y) None a b = refl
falls_earlier (Some x) (Some y) (Some z) a b = grind (arith, nat_tests, a, b)

falls_later : (e other t : Option ℕ) → comes_first e other ≡ true → comes_first e t ≡ false → comes_first other t ≡ false
falls_later None other t a b = absurd (cc b)
falls_later (Some x) None t a b = absurd (cc a)
falls_later (Some x) (Some y) None a b = refl
falls_later (Some x) (Some y) (Some z) a b = grind (arith, nat_tests, a, b)

pub best_begins : (sources : List SourceValue) → IsBest sources 0 None
best_begins sources i lt = absurd (omega (arith, lt))

pub best_none : (sources : List SourceValue) (k : ℕ) → IsBest sources k None → time_of (slice_get sources k) ≡ None → IsBest sources (k + 1) None
best_none sources k best here i lt = by_place (cases_eq i k)
  where
    by_place : (i ≡ k) ⊎ (i ≡ k → ⊥) → time_of (slice_get sources i) ≡ None
    by_place (inl same) = ap (λ (j : ℕ). time_of (slice_get sources j)) same ∙ here
    by_place (inr other) = best i (omega (arith, lt, other))

pub best_kept : (sources : List SourceValue) (k at : ℕ) (e : Option ℕ) → IsBestAt sources k at e
    → ((other : Option ℕ) → time_of (slice_get sources k) ≡ Some other → comes_first e other ≡ true) → IsBestAt sources (k + 1) at e
best_kept sources k at e best here =
    record { within = omega (arith, best.within); stands = best.stands; earlier = best.earlier; later = λ i other lt below is. by_place i other lt below is (cases_eq i k) }
  where
    by_place : (i : ℕ) (other : Option ℕ) → at < i → i < k + 1 → time_of (slice_get sources i) ≡ Some other → (i ≡ k) ⊎ (i ≡ k → ⊥) → comes_first e other ≡ true
    by_place i other lt below is (inl same) = here other (ap (λ (j : ℕ). time_of (slice_get sources j)) (sym same) ∙ is)
    by_place i other lt below is (inr apart) = best.later i other lt (omega (arith, below, apart)) is

pub best_first : (sources : List SourceValue) (k : ℕ) (t : Option ℕ) → IsBest sources k None → time_of (slice_get sources k) ≡ Some t → IsBestAt sources (k + 1) k t
best_first sources k t best here = record {
  within = omega arith;
  stands = here;
  earlier = λ i other lt is. (let no = best i lt in absurd (cc (is, no)));
  later = λ i other lt below is. absurd (omega (arith, lt, below));
}

pub best_other : (sources : List SourceValue) (k at : ℕ) (e t : Option ℕ) → IsBestAt sources k at e → time_of (slice_get sources k) ≡ Some t
    → comes_first e t ≡ false → IsBestAt sources (k + 1) k t
best_other sources k at e t best here not = record {
  within = omega arith;
  stands = here;
  earlier = λ i other lt is. by_order i other lt is (cases_lt i at);
  later = λ i other lt below is. absurd (omega (arith, lt, below));
}
  where
    by_place : (i : ℕ) (other : Option ℕ) → i < k → at ≤ i → time_of (slice_get sources i) ≡ Some other → (i ≡ at) ⊎ (i ≡ at → ⊥) → comes_first other t ≡ false
    by_place i other lt le is (inl same) =
        let at_i : time_of (slice_get sources i) ≡ Some e = ap (λ (j : ℕ). time_of (slice_get sources j)) same ∙ best.stands in
        let equal : e ≡ other = cc (at_i, is) in subst (λ (x : Option ℕ). comes_first x t ≡ false) equal not
    by_place i other lt le is (inr apart) = falls_later e other t (best.later i other (omega (arith, le, apart)) lt is) not

    by_order : (i : ℕ) (other : Option ℕ) → i < k → time_of (slice_get sources i) ≡ Some other → (i < at) ⊎ (at ≤ i) → comes_first other t ≡ false
    by_order i other lt is (inl less) = falls_earlier other e t (best.earlier i other less is) not
    by_order i other lt is (inr le) = by_place i other lt le is (cases_eq i at)

best_chosen : (sources : List SourceValue) (k : ℕ) (first : ℕ × Option ℕ) (t : Option ℕ) (b : Bool) → comes_first first.1 t ≡ b
    → IsBestAt sources k first.0 first.1 → time_of (slice_get sources k) ≡ Some t → IsBest sources (k + 1) (cond b (Some first) (Some (k, t)))
best_chosen sources k first t true turn best is =
    best_kept sources k first.0 first.1 best
    (λ other at. (let same : t ≡ other = cc (is, at) in subst (λ (x : Option ℕ). comes_first first.1 x ≡ true) same turn))
best_chosen sources k first t false turn best is = best_other sources k first.0 first.1 t best is turn

pub best_next : (sources : List SourceValue) (k : ℕ) (first : Option (ℕ × Option ℕ)) (o : Option (Option ℕ)) → IsBest sources k first
    → time_of (slice_get sources k) ≡ o → IsBest sources (k + 1) (earlier_of first k o)
best_next sources k None None best is = best_none sources k best is
best_next sources k (Some first) None best is = best_kept sources k first.0 first.1 best (λ other at. absurd (cc (is, at)))
best_next sources k None (Some t) best is = best_first sources k t best is
best_next sources k (Some first) (Some t) best is = best_chosen sources k first t (comes_first first.1 t) refl best is

past : (sources : List SourceValue) (i : ℕ) → length sources ≤ i → time_of (slice_get sources i) ≡ None
past sources i le = ap time_of (slice_get_past sources i le)

pub first_of_all : (sources : List SourceValue) (k at : ℕ) (t : Option ℕ) → length sources ≤ k → IsBestAt sources k at t → IsFirst sources at
first_of_all sources k at t all best = record {
  time = t;
  stands = best.stands;
  earlier = best.earlier;
  later = λ i other lt is. by_place i other lt is (cases_lt i k);
}
  where
    by_place : (i : ℕ) (other : Option ℕ) → at < i → time_of (slice_get sources i) ≡ Some other → (i < k) ⊎ (k ≤ i) → comes_first t other ≡ true
    by_place i other lt is (inl within) = best.later i other lt within is
    by_place i other lt is (inr le) = let beyond = past sources i (omega (arith, all, le)) in absurd (cc (is, beyond))

pub none_of_all : (sources : List SourceValue) (k : ℕ) → length sources ≤ k → IsBest sources k None → NoneFirst sources
none_of_all sources k all best i = by_place (cases_lt i k)
  where
    by_place : (i < k) ⊎ (k ≤ i) → time_of (slice_get sources i) ≡ None
    by_place (inl within) = best i within
    by_place (inr le) = past sources i (omega (arith, all, le))
