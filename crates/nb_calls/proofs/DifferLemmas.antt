-- The least of all keys at which two tables differ is found among the keys of both.
use Rattle.nb_calls.proofs.Common.{◌≡◌, ◌≢◌, ◌∙◌, ◌||◌, cond, Bool, true, false, List, [], ◌∷◌, Option, Some, None, is_some, Ok, inl, inr, ◌⊎◌, refl, sym, ap, subst, true≢false, ⊤, list_any, Key, Contents, HasOneElse, EntryValue, AreSameAt, IsLeastDifference, Differs, difference_of, lower_of, Narrows, same, differs, NarrowsBy, at_none, at_one}
use Rattle.std.specs.Cmp.{tied_itself}
use Rattle.std.specs.FinMap as maps
use Rattle.std.specs.Ordering.{eq_by_cmp, is_lt, ordering_reverse}
use Rattle.std.specs.declared.cmp.Ordering.{Ordering}
use Rattle.std.specs.declared.cmp.Ordering.TheVariants.{Less, Equal, Greater}
use Rattle.nb_datagram.specs.Key.{key_cmp, key_cmp_total, key_cmp_exact}
use Rattle.nb_entries.specs.Shared.MapsLemmas.{one_key}
use Rattle.nb_table.specs.Shared.TableLemmas.{same_table}

-- the key isn't below the least so far, of which there is one
abbrev IsAbove : Option Key → Key → Type 0
IsAbove None k = ⊥
IsAbove (Some held) k = key_cmp k held ≢ Less

-- what is below isn't at or above
not_both : (a b c : Key) → key_cmp a b ≡ Less → key_cmp c b ≢ Less → key_cmp c a ≢ Less
not_both a b c below above h = above (key_cmp_total.trans c a b h below)

-- a key is not below itself
not_itself : (k : Key) → key_cmp k k ≢ Less
not_itself k h = absurd (cc (h, tied_itself key_cmp_total k))

-- the lower of two is at or below both
lower_self : (k held : Key) (r : Ordering) → key_cmp k held ≡ r → key_cmp k (cond (is_lt r) k held) ≢ Less
lower_self k held Less e = not_itself k
lower_self k held Equal e = λ h. absurd (cc (e, h))
lower_self k held Greater e = λ h. absurd (cc (e, h))

lower_held : (k held q : Key) (r : Ordering) → key_cmp k held ≡ r → key_cmp q held ≢ Less → key_cmp q (cond (is_lt r) k held) ≢ Less
lower_held k held q Less e above = not_both k held q e above
lower_held k held q Equal e above = above
lower_held k held q Greater e above = above

above_lower : (k : Key) (least : Option Key) → IsAbove (Some (lower_of k least)) k
above_lower k None = not_itself k
above_lower k (Some held) = lower_self k held (key_cmp k held) refl

still_above : (k : Key) (least : Option Key) (q : Key) → IsAbove least q → IsAbove (Some (lower_of k least)) q
still_above k None q h = absurd h
still_above k (Some held) q h = lower_held k held q (key_cmp k held) refl h

module _ (t u : Contents) where
  -- at the key the tables are the same, or it isn't below the least so far
  abbrev IsJudged : Option Key → Key → Type 0
  IsJudged least q = AreSameAt t u q ⊎ IsAbove least q

  -- the tables differ at the least so far, if there is one
  abbrev IsDifference : Option Key → Type 0
  IsDifference None = ⊤
  IsDifference (Some k) = ¬ AreSameAt t u k

  lower_differs : (k held : Key) (r : Ordering) → ¬ AreSameAt t u k → ¬ AreSameAt t u held → ¬ AreSameAt t u (cond (is_lt r) k held)
  lower_differs k held Less n d = n
  lower_differs k held Equal n d = d
  lower_differs k held Greater n d = d

  lower_is : (k : Key) (least : Option Key) → ¬ AreSameAt t u k → IsDifference least → ¬ AreSameAt t u (lower_of k least)
  lower_is k None n d = n
  lower_is k (Some held) n d = lower_differs k held (key_cmp k held) n d

  differs_on : (k : Key) (a b : Option Key) → Narrows t u k a b → IsDifference a → IsDifference b
  differs_on k a _ (same s) d = d
  differs_on k a _ (differs n) d = lower_is k a n d

  judged_on : (k : Key) (a b : Option Key) → Narrows t u k a b → (q : Key) → IsJudged a q → IsJudged b q
  judged_on k a _ (same s) q j = j
  judged_on k a _ (differs n) q j = elim j [
    | inl e ↦ inl e
    | inr h ↦ inr (still_above k a q h)
  ]

  judged_at : (k : Key) (a b : Option Key) → Narrows t u k a b → IsJudged b k
  judged_at k a _ (same s) = inl s
  judged_at k a _ (differs n) = inr (above_lower k a)

  -- ---- keys one after another

  differs_by : (ks : List Key) (a b : Option Key) → NarrowsBy t u ks a b → IsDifference a → IsDifference b
  differs_by _ a _ at_none d = d
  differs_by _ a b (at_one {k} {ks} {next = c} n more) d = differs_by ks c b more (differs_on k a c n d)

  judged_by : (ks : List Key) (a b : Option Key) → NarrowsBy t u ks a b → (q : Key) → IsJudged a q → IsJudged b q
  judged_by _ a _ at_none q j = j
  judged_by _ a b (at_one {k} {ks} {next = c} n more) q j = judged_by ks c b more q (judged_on k a c n q j)

  -- one of the keys is the first, or one of the others
  first_or_other : (q k : Key) (ks : List Key) (b : Bool) → eq_by_cmp key_cmp q k ≡ b → list_any (eq_by_cmp key_cmp q) (k ∷ ks) ≡ true
      → (q ≡ k) ⊎ (list_any (eq_by_cmp key_cmp q) ks ≡ true)
  first_or_other q k ks true h e = inl (one_key key_cmp_exact q k h)
  first_or_other q k ks false h e = inr (subst (λ (b : Bool). (b || list_any (eq_by_cmp key_cmp q) ks) ≡ true) h e)

  found_by : (ks : List Key) (a b : Option Key) → NarrowsBy t u ks a b → (q : Key) → list_any (eq_by_cmp key_cmp q) ks ≡ true → IsJudged b q
  found_by _ a _ at_none q e = absurd (true≢false (sym e))
  found_by _ a b (at_one {k} {ks} {next = c} n more) q e = elim (first_or_other q k ks (eq_by_cmp key_cmp q k) refl e) [
    | inl is ↦ judged_by ks c b more q (subst (λ (x : Key). IsJudged c x) (sym is) (judged_at k a c n))
    | inr among ↦ found_by ks c b more q among
  ]

  -- what is left of the keys narrows on from the next one
  pub narrows_on : (k : Key) (rest left all : List Key) (from least next : Option Key) → rest ≡ k ∷ left → Narrows t u k least next
      → ((new : Option Key) → NarrowsBy t u rest least new → NarrowsBy t u all from new)
      → (new : Option Key) → NarrowsBy t u left next new → NarrowsBy t u all from new
  narrows_on k rest left all from least next steps n before new more =
      before new (subst (λ (ks : List Key). NarrowsBy t u ks least new) (sym steps) (at_one n more))

  -- where nothing is left, all keys have narrowed it
  pub narrowed_all : (rest all : List Key) (from least : Option Key) → rest ≡ []
      → ((new : Option Key) → NarrowsBy t u rest least new → NarrowsBy t u all from new) → NarrowsBy t u all from least
  narrowed_all rest all from least steps before =
      before least (subst (λ (ks : List Key). NarrowsBy t u ks least least) (sym steps) at_none)

  -- ---- the keys of both tables

  module _ (a b : Option Key) (first : NarrowsBy t u (maps.keys t) None a) (then : NarrowsBy t u (maps.keys u) a b) where
    judged_where : (q : Key) (o p : Option EntryValue) → maps.get t q ≡ o → maps.get u q ≡ p → IsJudged b q
    judged_where q (Some x) p h g = judged_by (maps.keys u) a b then q (found_by (maps.keys t) None a first q (sym (maps.contains_key-keys t q) ∙ ap is_some h))
    judged_where q None (Some x) h g = found_by (maps.keys u) a b then q (sym (maps.contains_key-keys u q) ∙ ap is_some g)
    judged_where q None None h g = inl (h ∙ sym g)

    same_or_above : (q : Key) → IsJudged b q
    same_or_above q = judged_where q (maps.get t q) (maps.get u q) refl refl

    b_differs : IsDifference b
    b_differs = differs_by (maps.keys u) a b then (differs_by (maps.keys t) None a first tt)

  pub least_is : (a b : Option Key) → NarrowsBy t u (maps.keys t) None a → NarrowsBy t u (maps.keys u) a b → IsLeastDifference t u b
  least_is a None first then = same_table t u (λ q. elim (same_or_above a None first then q) [
    | inl e ↦ e
    | inr h ↦ absurd h
  ])
  least_is a (Some k) first then = (
    b_differs a (Some k) first then,
    λ j below. elim (same_or_above a (Some k) first then j) [
      | inl e ↦ e
      | inr above ↦ absurd (above below)
    ],
  )

  -- ---- there is one

  one_key_least : (k j : Key) (r : Ordering) → key_cmp k j ≡ r → IsLeastDifference t u (Some k) → IsLeastDifference t u (Some j) → k ≡ j
  one_key_least k j Less e l m = absurd (l.0 (m.1 k e))
  one_key_least k j Equal e l m = key_cmp_exact k j e
  one_key_least k j Greater e l m = absurd (m.0 (l.1 j (key_cmp_total.antisymm j k ∙ ap ordering_reverse e)))

  one_least : (l m : Option Key) → IsLeastDifference t u l → IsLeastDifference t u m → l ≡ m
  one_least None None l m = refl
  one_least None (Some k) l m = absurd (m.0 (ap (λ (x : Contents). maps.get x k) l))
  one_least (Some k) None l m = absurd (l.0 (ap (λ (x : Contents). maps.get x k) m))
  one_least (Some k) (Some j) l m = ap Some (one_key_least k j (key_cmp k j) refl l m)

  pub one_difference : HasOneElse (Differs t u)
  one_difference a b (l, is, e) (m, also, d) h k =
      e ∙ ap (λ (x : Option Key). Ok (difference_of x)) (one_least l m is also) ∙ sym d
