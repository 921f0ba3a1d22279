-- Which of the two limits on keys a refusal reports, and that the key it names is the least that finds no room.
use Rattle.nb_table.proofs.Common.{◌≡◌, ◌≢◌, ◌<◌, ◌≤◌, ◌-◌, ◌+◌, ◌&&◌, inl, inr, ℕ, suc, zero, cond, Bool, true, false, List, [], ◌∷◌, filter, map, length, slice_get, is_none, Option, Some, None, refl, sym, ◌∙◌, ap, subst, arith, cases_lt, or_left, or_right, and_parts, none-some, same_Some, T, Ordering, Less, Equal, Greater, eq_by_cmp, is_lt, ordering_reverse, tied_itself, AllByRecursion, list_any, is_sorted, below_all, Key, FragmentParts, core_of, key_cmp, key_cmp_total, key_cmp_exact, Held, joined_onto, EntryValue, facts_of, join_entry, Contents, Refuses, with_fragment, join, FewOfEach, every_key, held_keys, of_source, Limits, TableValue, IsReadAs, LoadFails, ill_formed, full, IsRefused, IsUnfitSource, first_unfit, new_keys, join_one, entries_kept, keys_kept, T_left, T_right, tied_self}
use Rattle.std.specs.FinMap as maps
use Rattle.nb_table.specs.declared.fault.TableFault.TheVariants.{Full}
use Rattle.nb_entries.specs.declared.saved.LoadFault.TheVariants as faults
use Rattle.nb_table.specs.Refusals.{IsNew, below, is_lesser}
use Rattle.nb_table.proofs.Limits.GroupLemmas.{few_insert, few_join, filter_at_most, fit_held, held_every, held_join, source_decides}
use Rattle.nb_table.proofs.Limits.SourceLemmas.{is_less}
use Rattle.nb_table.proofs.Limits.UnfitLemmas.{found_kept}
use Rattle.nb_table.proofs.SavedReading.LoadLemmas.{one_table}
use Rattle.nb_table.proofs.SavedReading.FoundLemmas.{one_read}

-- ---- no address is over

pub insert_few : (t : TableValue) (f : FragmentParts) (k : Key) → FewOfEach t.limits.per_source t.contents → Refuses t f (Full k) → FewOfEach t.limits.per_source (with_fragment t f).contents
insert_few t f k few h =
    subst (FewOfEach t.limits.per_source) (sym (join_one t.contents (core_of f)))
    (few_insert t.limits.per_source t.contents f.key (joined_onto join_entry (maps.get t.contents f.key) (Held (facts_of (core_of f)))) few room)
  where
    room : maps.get t.contents f.key ≡ None → held_keys (of_source f.key.ip) t.contents < t.limits.per_source
    room is_new = elim (cases_lt (held_keys (of_source f.key.ip) t.contents) t.limits.per_source) [
      | inl less ↦ less
      | inr most ↦ absurd (h.1.2 (record { is_new = is_new; no_room = most }))
    ]

pub merge_few : (l : Limits) (s t : Contents) (k : Key) → FewOfEach l.per_source s → IsRefused l s t (Full k) → FewOfEach l.per_source (join s t)
merge_few l s t k few h = few_join l.per_source s t few h.2

pub load_few : (input : List ℕ) (l : Limits) (t : Contents) → IsReadAs input t → LoadFails input l faults.Full → FewOfEach l.per_source t
load_few input l t r (ill_formed fault) = let clash = one_read input _ _ r.read fault in absurd (cc clash)
load_few input l t r (full u read short few over) = subst (FewOfEach l.per_source) (one_table input u t read r) few

-- ---- lesser keys

above_each : {X : Type 0} (k : Key) (es : List (Key × X)) → T (below_all key_cmp k es) → AllByRecursion (λ e. key_cmp k e.0 ≡ Less) es
above_each k [] h = tt
above_each k (e ∷ es) h = (is_less (key_cmp k e.0) (T_left _ _ h), above_each k es (T_right _ _ h))

turned : (r s : Ordering) → r ≡ Less → s ≡ ordering_reverse r → is_lt s ≡ false
turned r s e f = ap is_lt (f ∙ ap ordering_reverse e)

-- a greater key isn't less
not_lesser : (k q : Key) → key_cmp k q ≡ Less → is_lesser k q ≡ false
not_lesser k q h = turned (key_cmp k q) (key_cmp q k) h (key_cmp_total.antisymm q k)

not_itself : (k : Key) → is_lesser k k ≡ false
not_itself k = ap is_lt (tied_itself key_cmp_total k)

none_lesser : {X : Type 0} (k : Key) (g : Key → Bool) (es : List (Key × X)) → AllByRecursion (λ e. key_cmp k e.0 ≡ Less) es → length (filter (is_lesser k) (filter g (map (λ e. e.0) es))) ≡ 0
none_lesser k g [] h = refl
none_lesser k g (e ∷ es) h = step (g e.0) (none_lesser k g es h.1)
  where
    step : (b : Bool) → length (filter (is_lesser k) (filter g (map (λ f. f.0) es))) ≡ 0 → length (filter (is_lesser k) (cond b (e.0 ∷ filter g (map (λ f. f.0) es)) (filter g (map (λ f. f.0) es)))) ≡ 0
    step false rec = rec
    step true rec = ap (λ b. length (cond b (e.0 ∷ filter (is_lesser k) (filter g (map (λ f. f.0) es))) (filter (is_lesser k) (filter g (map (λ f. f.0) es))))) (not_lesser k e.0 h.0) ∙ rec

-- of ascending keys that pass a test, as many are less than one as stand before it
pub place_is : {X : Type 0} (g : Key → Bool) (es : List (Key × X)) → T (is_sorted key_cmp es) → (i : ℕ) (k : Key) → slice_get (filter g (map (λ e. e.0) es)) i ≡ Some k → length (filter (is_lesser k) (filter g (map (λ e. e.0) es))) ≡ i
place_is g [] s i k h = absurd (none-some k h)
place_is g (e ∷ es) s i k h = step (g e.0) i h (λ j f. place_is g es (T_right _ _ s) j k f)
  where
    above : AllByRecursion (λ f. key_cmp e.0 f.0 ≡ Less) es
    above = above_each e.0 es (T_left _ _ s)

    step : (b : Bool) (j : ℕ) → slice_get (cond b (e.0 ∷ filter g (map (λ f. f.0) es)) (filter g (map (λ f. f.0) es))) j ≡ Some k → ((j : ℕ) → slice_get (filter g (map (λ f. f.0) es)) j ≡ Some k → length (filter (is_lesser k) (filter g (map (λ f. f.0) es))) ≡ j) → length (filter (is_lesser k) (cond b (e.0 ∷ filter g (map (λ f. f.0) es)) (filter g (map (λ f. f.0) es)))) ≡ j
    step false j f rec = rec j f
    step true zero f rec =
        let one = same_Some e.0 k f in
        subst (λ (q : Key). length (filter (is_lesser q) (e.0 ∷ filter g (map (λ f. f.0) es))) ≡ 0) one
        (ap (λ b. length (cond b (e.0 ∷ filter (is_lesser e.0) (filter g (map (λ f. f.0) es))) (filter (is_lesser e.0) (filter g (map (λ f. f.0) es))))) (not_itself e.0)
        ∙ none_lesser e.0 g es above)
    step true (suc j) f rec =
        let lower = (found_kept (λ q. key_cmp e.0 q ≡ Less) g es above j k f).0 in
        ap (λ b. length (cond b (e.0 ∷ filter (is_lesser k) (filter g (map (λ f. f.0) es))) (filter (is_lesser k) (filter g (map (λ f. f.0) es))))) (ap is_lt lower)
        ∙ ap suc (rec j f)

-- ---- what stands below a key

filter_swap : (g h : Key → Bool) (ks : List Key) → filter g (filter h ks) ≡ filter h (filter g ks)
filter_swap g h [] = refl
filter_swap g h (k ∷ ks) = step (g k) refl (h k) refl (filter_swap g h ks)
  where
    step : (b : Bool) → g k ≡ b → (c : Bool) → h k ≡ c → filter g (filter h ks) ≡ filter h (filter g ks) → filter g (cond c (k ∷ filter h ks) (filter h ks)) ≡ filter h (cond b (k ∷ filter g ks) (filter g ks))
    step true e true f rec = ap (λ d. cond d (k ∷ filter g (filter h ks)) (filter g (filter h ks))) e ∙ ap (λ (r : List Key). k ∷ r) rec ∙ sym (ap (λ d. cond d (k ∷ filter h (filter g ks)) (filter h (filter g ks))) f)
    step true e false f rec = rec ∙ sym (ap (λ d. cond d (k ∷ filter h (filter g ks)) (filter h (filter g ks))) f)
    step false e true f rec = ap (λ d. cond d (k ∷ filter g (filter h ks)) (filter g (filter h ks))) e ∙ rec
    step false e false f rec = rec

new_below : (p : Key → Bool) (s t : Contents) (k : Key) → new_keys p s (below k t) ≡ filter (is_lesser k) (new_keys p s t)
new_below p s t k =
    let g = λ (q : Key). p q && is_none (maps.get s q) in
    ap (λ (es : List (Key × EntryValue)). filter g (map (λ e. e.0) es)) (entries_kept t (is_lesser k))
    ∙ ap (filter g) (keys_kept (is_lesser k) (maps.entries t))
    ∙ filter_swap g (is_lesser k) (maps.keys t)

held_below : (p : Key → Bool) (s t : Contents) (k : Key) → held_keys p (join s (below k t)) ≡ held_keys p s + length (filter (is_lesser k) (new_keys p s t))
held_below p s t k = held_join p s (below k t) ∙ ap (λ (ks : List Key). held_keys p s + length ks) (new_below p s t k)

-- with what stands below the key that finds no room, as many are held as may be
pub held_least : (n : ℕ) (p : Key → Bool) (s t : Contents) (k : Key) → held_keys p s ≤ n → first_unfit n p s t ≡ Some k → held_keys p (join s (below k t)) ≡ n
held_least n p s t k held h =
    let size = held_below p s t k in
    let before = place_is (λ (q : Key). p q && is_none (maps.get s q)) (maps.entries t) (maps.entries_sorted t) (n - held_keys p s) k h in
    omega (arith, size, before, held)

-- ---- the key is new

all_units : {X : Type 0} (es : List (Key × X)) → AllByRecursion (λ e. Unit {0}) es
all_units [] = tt
all_units (e ∷ es) = (tt, all_units es)

none_is : {X : Type 0} (o : Option X) → is_none o ≡ true → o ≡ None
none_is None h = refl
none_is (Some x) h = absurd (cc h)

is_there : (g : Key → Bool) (ks : List Key) (i : ℕ) (k : Key) → slice_get (filter g ks) i ≡ Some k → list_any (eq_by_cmp key_cmp k) ks ≡ true
is_there g [] i k h = absurd (none-some k h)
is_there g (q ∷ ks) i k h = step (g q) i h (λ j f. is_there g ks j k f)
  where
    here : q ≡ k → list_any (eq_by_cmp key_cmp k) (q ∷ ks) ≡ true
    here one = or_left (eq_by_cmp key_cmp k q) (list_any (eq_by_cmp key_cmp k) ks) (ap (eq_by_cmp key_cmp k) one ∙ tied_self key_cmp_total k)

    later : list_any (eq_by_cmp key_cmp k) ks ≡ true → list_any (eq_by_cmp key_cmp k) (q ∷ ks) ≡ true
    later f = or_right (eq_by_cmp key_cmp k q) (list_any (eq_by_cmp key_cmp k) ks) f

    step : (b : Bool) (j : ℕ) → slice_get (cond b (q ∷ filter g ks) (filter g ks)) j ≡ Some k → ((j : ℕ) → slice_get (filter g ks) j ≡ Some k → list_any (eq_by_cmp key_cmp k) ks ≡ true) → list_any (eq_by_cmp key_cmp k) (q ∷ ks) ≡ true
    step false j f rec = later (rec j f)
    step true zero f rec = here (same_Some q k f)
    step true (suc j) f rec = later (rec j f)

pub unfit_new : (n : ℕ) (p : Key → Bool) (s t : Contents) (k : Key) → first_unfit n p s t ≡ Some k → IsNew s t k
unfit_new n p s t k h =
    let found = found_kept (λ q. Unit {0}) (λ q. p q && is_none (maps.get s q)) (maps.entries t) (all_units (maps.entries t)) (n - held_keys p s) k h in
    record {
      lacks = none_is (maps.get s k) (and_parts _ _ found.1).1;
      held = maps.contains_key-keys t k ∙ is_there (λ q. p q && is_none (maps.get s q)) (maps.keys t) (n - held_keys p s) k h;
    }

-- ---- the key that is named

pub full_least : (l : Limits) (s t : Contents) (k : Key) → maps.len s ≤ l.keys → IsRefused l s t (Full k) → maps.len (join s (below k t)) ≡ l.keys
full_least l s t k held h =
    let size = held_every (join s (below k t)) in
    let here = held_every s in
    sym size ∙ held_least l.keys every_key s t k (omega (arith, here, held)) h.1

narrower : (g h : Key → Bool) → ((k : Key) → g k ≡ true → h k ≡ true) → (ks : List Key) → length (filter g ks) ≤ length (filter h ks)
narrower g h inside [] = omega arith
narrower g h inside (k ∷ ks) = step (g k) refl (h k) refl (narrower g h inside ks)
  where
    step : (b : Bool) → g k ≡ b → (c : Bool) → h k ≡ c → length (filter g ks) ≤ length (filter h ks) → length (cond b (k ∷ filter g ks) (filter g ks)) ≤ length (cond c (k ∷ filter h ks) (filter h ks))
    step true e true f rec = omega (arith, rec)
    step true e false f rec = let clash = sym (inside k e) ∙ f in absurd (cc clash)
    step false e true f rec = omega (arith, rec)
    step false e false f rec = rec

-- what is less than a key is less than one that isn't less than this
lesser_too : (k q : Key) → key_cmp k q ≢ Greater → (j : Key) → is_lesser k j ≡ true → is_lesser q j ≡ true
lesser_too k q h j e = step (key_cmp k q) refl
  where
    step : (r : Ordering) → key_cmp k q ≡ r → is_lesser q j ≡ true
    step Less f = ap is_lt (key_cmp_total.trans j k q (is_less (key_cmp j k) (subst T (sym e) tt)) f)
    step Equal f = subst (λ (x : Key). is_lesser x j ≡ true) (key_cmp_exact k q f) e
    step Greater f = absurd (h f)

pub source_others : (n : ℕ) (s t : Contents) (k : Key) → FewOfEach n s → IsUnfitSource n s t k → FewOfEach n (join s (below k t))
source_others n s t k few u ip = step (first_unfit n (of_source ip) s t) refl
  where
    size : held_keys (of_source ip) (join s (below k t)) ≡ held_keys (of_source ip) s + length (filter (is_lesser k) (new_keys (of_source ip) s t))
    size = held_below (of_source ip) s t k

    step : (o : Option Key) → first_unfit n (of_source ip) s t ≡ o → held_keys (of_source ip) (join s (below k t)) ≤ n
    step None h =
        let all = held_join (of_source ip) s t in
        let most = fit_held n (of_source ip) s t (few ip) h in
        let part = filter_at_most (is_lesser k) (new_keys (of_source ip) s t) in
        omega (arith, size, all, most, part)
    step (Some q) h =
        let found = found_kept (λ j. Unit {0}) (λ j. of_source ip j && is_none (maps.get s j)) (maps.entries t) (all_units (maps.entries t)) (n - held_keys (of_source ip) s) q h in
        let at : q.ip ≡ ip = (source_decides ip q).0 (and_parts _ _ found.1).0 in
        let own = ap (λ (i : List ℕ). first_unfit n (of_source i) s t) at ∙ h in
        let fewer = narrower (is_lesser k) (is_lesser q) (lesser_too k q (u.least q own)) (new_keys (of_source ip) s t) in
        let before = place_is (λ (j : Key). of_source ip j && is_none (maps.get s j)) (maps.entries t) (maps.entries_sorted t) (n - held_keys (of_source ip) s) q h in
        omega (arith, size, fewer, before, few ip)
