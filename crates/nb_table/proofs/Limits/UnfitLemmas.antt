-- The least key that doesn't fit among those of its address: found by going through the addresses, ascending.
use Rattle.nb_table.proofs.Common.{append-nil, ◌≡◌, ◌≢◌, ◌≤◌, ◌-◌, ◌+◌, ◌&&◌, ◌++◌, ℕ, suc, zero, cond, Bool, true, false, List, [], ◌∷◌, filter, map, length, slice_get, is_none, Option, Some, None, refl, sym, ◌∙◌, ap, subst, arith, length-map, none-some, same_Some, slice_get_past, T, IfSome, MatchOption, Less, Greater, tied_itself, AllByRecursion, is_sorted, below_all, Key, key_cmp, key_cmp_total, EntryValue, Contents, of_source, held_keys, first_unfit, new_keys, SourcesFit, IsUnfitSource, T_left, T_right, all_append, and_parts, ip_cmp}
use Rattle.std.specs.FinMap as maps
use Rattle.nb_table.proofs.Limits.GroupLemmas.{held_at_most, filter_at_most, source_decides}
use Rattle.nb_table.proofs.Limits.SourceLemmas.{is_less, lower_ip, lower_key, strictly}

-- what is found among those that pass a test is one of them, and passes
pub found_kept : {X : Type 0} (P : Key → Type 0) (h : Key → Bool) (es : List (Key × X)) → AllByRecursion (λ e. P e.0) es → (i : ℕ) (q : Key) → slice_get (filter h (map (λ e. e.0) es)) i ≡ Some q → P q × (h q ≡ true)
found_kept P h [] all i q f = absurd (none-some q f)
found_kept P h (e ∷ es) all i q f = step (h e.0) refl i f (λ j g. found_kept P h es all.1 j q g)
  where
    step : (b : Bool) → h e.0 ≡ b → (j : ℕ) → slice_get (cond b (e.0 ∷ filter h (map (λ g. g.0) es)) (filter h (map (λ g. g.0) es))) j ≡ Some q → ((k : ℕ) → slice_get (filter h (map (λ g. g.0) es)) k ≡ Some q → P q × (h q ≡ true)) → P q × (h q ≡ true)
    step true is zero g rec = let one = same_Some e.0 q g in (subst P one all.0, ap h (sym one) ∙ is)
    step true is (suc j) g rec = rec j g
    step false is j g rec = rec j g

-- unfit n s t q: the least key of the address of q that doesn't fit
abbrev pub unfit : ℕ → Contents → Contents → Key → Option Key
unfit n s t q = first_unfit n (of_source q.ip) s t

pub same_unfit : (n : ℕ) (s t : Contents) (a b : Key) → a.ip ≡ b.ip → unfit n s t a ≡ unfit n s t b
same_unfit n s t a b e = ap (λ (ip : List ℕ). first_unfit n (of_source ip) s t) e

-- the key that doesn't fit has the address
unfit_ip : (n : ℕ) (s t : Contents) (a k : Key) → unfit n s t a ≡ Some k → k.ip ≡ a.ip
unfit_ip n s t a k h =
    let found = found_kept (λ q. Unit {0}) (λ q. of_source a.ip q && is_none (maps.get s q)) (maps.entries t) (all_units (maps.entries t)) (n - held_keys (of_source a.ip) s) k h in
    (source_decides a.ip k).0 (and_parts _ _ found.1).0
  where
    all_units : (es : List (Key × EntryValue)) → AllByRecursion (λ e. Unit {0}) es
    all_units [] = tt
    all_units (e ∷ es) = (tt, all_units es)

-- no key fails to fit where none does of the address of any key
pub all_fit : (n : ℕ) (s t : Contents) → AllByRecursion (λ e. unfit n s t e.0 ≡ None) (maps.entries t) → SourcesFit n s t
all_fit n s t all ip = step (first_unfit n (of_source ip) s t) refl
  where
    step : (o : Option Key) → first_unfit n (of_source ip) s t ≡ o → o ≡ None
    step None h = refl
    step (Some q) h =
        let found = found_kept (λ k. unfit n s t k ≡ None) (λ k. of_source ip k && is_none (maps.get s k)) (maps.entries t) all (n - held_keys (of_source ip) s) q h in
        let same : q.ip ≡ ip = (source_decides ip q).0 (and_parts _ _ found.1).0 in
        absurd (none-some q (sym found.0 ∙ ap (λ (i : List ℕ). first_unfit n (of_source i) s t) same ∙ h))

-- the key that doesn't fit, of the first address of which there is one, is the least
least_here : (n : ℕ) (s t : Contents) (e : Key × EntryValue) (es : List (Key × EntryValue)) (k : Key) → T (below_all key_cmp e.0 es) → unfit n s t e.0 ≡ Some k → AllByRecursion (λ f. unfit n s t f.0 ≡ Some f.0 → key_cmp k f.0 ≢ Greater) es
least_here n s t e [] k below h = tt
least_here n s t e (f ∷ fs) k below h = (
  λ g up. step (unfit_ip n s t e.0 k h) g up,
  least_here n s t e fs k (T_right _ _ below) h,
)
  where
    same_one : k.ip ≡ e.0.ip → unfit n s t f.0 ≡ Some f.0 → e.0.ip ≡ f.0.ip → k ≡ f.0
    same_one at g ips = same_Some k f.0 (sym h ∙ same_unfit n s t e.0 f.0 ips ∙ g)

    above : k.ip ≡ e.0.ip → unfit n s t f.0 ≡ Some f.0 → key_cmp k f.0 ≡ Greater → e.0.ip ≢ f.0.ip
    above at g up ips = let clash = sym (tied_itself key_cmp_total k) ∙ ap (key_cmp k) (same_one at g ips) ∙ up in absurd (cc clash)

    step : k.ip ≡ e.0.ip → unfit n s t f.0 ≡ Some f.0 → key_cmp k f.0 ≡ Greater → ⊥
    step at g up =
        let less = strictly e.0.ip f.0.ip (lower_ip e.0 f.0 (is_less (key_cmp e.0 f.0) (T_left _ _ below))) (above at g up) in
        let lower = lower_key k f.0 (subst (λ (i : List ℕ). ip_cmp i f.0.ip ≡ Less) (sym at) less) in
        let clash = sym lower ∙ up in
        absurd (cc clash)

none_all : (n : ℕ) (s t : Contents) (k : Key) (es : List (Key × EntryValue)) → AllByRecursion (λ f. unfit n s t f.0 ≡ None) es → AllByRecursion (λ f. unfit n s t f.0 ≡ Some f.0 → key_cmp k f.0 ≢ Greater) es
none_all n s t k [] h = tt
none_all n s t k (f ∷ fs) h = (λ g up. none-some f.0 (sym h.0 ∙ g), none_all n s t k fs h.1)

pub unfit_found : (n : ℕ) (s t : Contents) (done : List (Key × EntryValue)) (e : Key × EntryValue) (es : List (Key × EntryValue)) (k : Key) → maps.entries t ≡ done ++ e ∷ es → T (is_sorted key_cmp (e ∷ es)) → AllByRecursion (λ f. unfit n s t f.0 ≡ None) done → unfit n s t e.0 ≡ Some k → IsUnfitSource n s t k
unfit_found n s t done e es k is sorted none h =
    let at = unfit_ip n s t e.0 k h in
    let self : unfit n s t e.0 ≡ Some e.0 → key_cmp k e.0 ≢ Greater =
    λ g up. (let one = same_Some k e.0 (sym h ∙ g) in let clash = sym (tied_itself key_cmp_total k) ∙ ap (key_cmp k) one ∙ up in absurd (cc clash)) in
    let all = all_append (λ f. unfit n s t f.0 ≡ Some f.0 → key_cmp k f.0 ≢ Greater) done (e ∷ es) (none_all n s t k done none) (self, least_here n s t e es k (T_left _ _ sorted) h) in
    record {
      unfit = same_unfit n s t k e.0 at ∙ h;
      least = λ q g. (found_kept (λ f. unfit n s t f ≡ Some f → key_cmp k f ≢ Greater) (λ f. of_source q.ip f && is_none (maps.get s f)) (maps.entries t)
          (subst (AllByRecursion (λ f. unfit n s t f.0 ≡ Some f.0 → key_cmp k f.0 ≢ Greater)) (sym is) all) (n - held_keys (of_source q.ip) s) q g).0 g;
    }

-- no key fails to fit where both tables together have no more than may be held of one address
pub few_fit : (n : ℕ) (s t : Contents) → maps.len s + maps.len t ≤ n → SourcesFit n s t
few_fit n s t few ip =
    let held = held_at_most (of_source ip) s in
    let all : length (maps.keys t) ≡ maps.len t = length-map (maps.entries t) (λ (e : Key × EntryValue). e.0) ∙ sym (maps.len-entries t) in
    let new = filter_at_most (λ k. of_source ip k && is_none (maps.get s k)) (maps.keys t) in
    slice_get_past (new_keys (of_source ip) s t) (n - held_keys (of_source ip) s) (omega (arith, few, held, all, new))

-- ---- the addresses gone through so far

pub record Gone (n : ℕ) (s t : Contents) (before : Option Key) (all left : List (Key × EntryValue)) : Type 0 where
  pub done : List (Key × EntryValue)
  pub is : all ≡ done ++ left
  pub none : AllByRecursion (λ f. unfit n s t f.0 ≡ None) done
  pub last : IfSome before (λ b. unfit n s t b ≡ None)
  pub sorted : T (is_sorted key_cmp left)

pub gone_begun : (n : ℕ) (s t : Contents) (all : List (Key × EntryValue)) → T (is_sorted key_cmp all) → Gone n s t None all all
gone_begun n s t all sorted = record { done = []; is = refl; none = tt; last = tt; sorted = sorted }

more_is : (done : List (Key × EntryValue)) (e : Key × EntryValue) (es : List (Key × EntryValue)) → done ++ e ∷ es ≡ (done ++ e ∷ []) ++ es
more_is [] e es = refl
more_is (d ∷ done) e es = ap (λ (r : List (Key × EntryValue)). d ∷ r) (more_is done e es)

pub gone_turn : (n : ℕ) (s t : Contents) (before after : Option Key) (all : List (Key × EntryValue)) (e : Key × EntryValue) (es : List (Key × EntryValue)) → Gone n s t before all (e ∷ es) → unfit n s t e.0 ≡ None → IfSome after (λ b. unfit n s t b ≡ None) → Gone n s t after all es
gone_turn n s t before after all e es g none last = record {
  done = g.done ++ e ∷ [];
  is = g.is ∙ more_is g.done e es;
  none = all_append (λ f. unfit n s t f.0 ≡ None) g.done (e ∷ []) g.none (none, tt);
  last = last;
  sorted = T_right _ _ g.sorted;
}

pub gone_all : (n : ℕ) (s t : Contents) (before : Option Key) → Gone n s t before (maps.entries t) [] → SourcesFit n s t
gone_all n s t before g = all_fit n s t (subst (AllByRecursion (λ f. unfit n s t f.0 ≡ None)) (sym (g.is ∙ append-nil g.done)) g.none)

-- the same address as that of the key before
pub gone_same : (n : ℕ) (s t : Contents) (before : Option Key) (all : List (Key × EntryValue)) (e : Key × EntryValue) (es : List (Key × EntryValue)) → Gone n s t before all (e ∷ es) → MatchOption before ⊥ (λ b. b.ip ≡ e.0.ip) → Gone n s t before all es
gone_same n s t None all e es g h = absurd h
gone_same n s t (Some b) all e es g h = gone_turn n s t (Some b) (Some b) all e es g (same_unfit n s t e.0 b (sym h) ∙ g.last) g.last
