-- The keys of one address stand together in the order of keys, and are counted from the first one on.
use Rattle.nb_table.proofs.Common.{rules, ◌≡◌, ◌≢◌, ◌+◌, ◌-◌, ◌&&◌, ℕ, suc, zero, cond, Bool, true, false, List, [], ◌∷◌, filter, map, length, slice_get, Some, None, refl, sym, ◌∙◌, ap, subst, arith, true≢false, and_from, and_parts, T, Ordering, Less, Equal, Greater, Included, Unbounded, nat_cmp, ordering_then, is_le, is_lt, tied_itself, AllByRecursion, entries_between, range_contains, is_sorted, slice_cmp-IsAntisymmetric, nat_cmp-IsAntisymmetric, below_all, is_sorted-where_key, Key, key_cmp, of_source, T_left, T_right, keys_kept, ip_cmp, nat_list_cmp_total}
use Rattle.nb_table.proofs.Limits.GroupLemmas.{source_decides}

-- ---- addresses in order

then_le : (r s : Ordering) → ordering_then r s ≡ Less → is_le r ≡ true
then_le Less s h = refl
then_le Equal s h = refl
then_le Greater s h = absurd (cc h)

-- the address of a lesser key is no greater
pub lower_ip : (a b : Key) → key_cmp a b ≡ Less → is_le (ip_cmp a.ip b.ip) ≡ true
lower_ip a b h = then_le (ip_cmp a.ip b.ip) _ h

-- a key with a lesser address is less
pub lower_key : (a b : Key) → ip_cmp a.ip b.ip ≡ Less → key_cmp a b ≡ Less
lower_key a b h = ap (λ r. ordering_then r (ordering_then (nat_cmp a.port b.port) (nat_cmp a.id b.id))) h

pub same_ip : (a b : List ℕ) → ip_cmp a b ≡ Equal → a ≡ b
same_ip = slice_cmp-IsAntisymmetric nat_cmp-IsAntisymmetric

-- an address that isn't greater and isn't the same is less
pub strictly : (a b : List ℕ) → is_le (ip_cmp a b) ≡ true → a ≢ b → ip_cmp a b ≡ Less
strictly a b h apart = step (ip_cmp a b) refl h
  where
    step : (r : Ordering) → ip_cmp a b ≡ r → is_le r ≡ true → r ≡ Less
    step Less e g = refl
    step Equal e g = absurd (apart (same_ip a b e))
    step Greater e g = absurd (cc g)

lt_le : (a b c : List ℕ) → ip_cmp a b ≡ Less → is_le (ip_cmp b c) ≡ true → ip_cmp a c ≡ Less
lt_le a b c h g = step (ip_cmp b c) refl g
  where
    step : (r : Ordering) → ip_cmp b c ≡ r → is_le r ≡ true → ip_cmp a c ≡ Less
    step Less e k = nat_list_cmp_total.trans a b c h e
    step Equal e k = subst (λ (x : List ℕ). ip_cmp a x ≡ Less) (same_ip b c e) h
    step Greater e k = absurd (cc k)

pub le_both : (a b c : List ℕ) → is_le (ip_cmp a b) ≡ true → is_le (ip_cmp b c) ≡ true → is_le (ip_cmp a c) ≡ true
le_both a b c h g = step (ip_cmp a b) refl h
  where
    step : (r : Ordering) → ip_cmp a b ≡ r → is_le r ≡ true → is_le (ip_cmp a c) ≡ true
    step Less e k = ap is_le (lt_le a b c e g)
    step Equal e k = subst (λ (x : List ℕ). is_le (ip_cmp x c) ≡ true) (sym (same_ip a b e)) g
    step Greater e k = absurd (cc k)

not_below_itself : (a b : List ℕ) → a ≡ b → ip_cmp a b ≡ Less → ⊥
not_below_itself a b e h = let clash = sym (tied_itself nat_list_cmp_total a) ∙ ap (ip_cmp a) e ∙ h in absurd (cc clash)

pub itself_le : (a : List ℕ) → is_le (ip_cmp a a) ≡ true
itself_le a = ap is_le (tied_itself nat_list_cmp_total a)

pub is_less : (r : Ordering) → T (is_lt r) → r ≡ Less
is_less Less h = refl
is_less Equal h = absurd h
is_less Greater h = absurd h

-- an address above another isn't it
pub other_source : (ip : List ℕ) (k : Key) → ip_cmp ip k.ip ≡ Less → of_source ip k ≡ false
other_source ip k h = step (of_source ip k) refl
  where
    step : (b : Bool) → of_source ip k ≡ b → b ≡ false
    step true e = absurd (not_below_itself ip k.ip (sym ((source_decides ip k).0 e)) h)
    step false e = refl

-- ---- keys past those of an address

-- none of these keys has the address
abbrev pub NoneOf : {X : Type 0} → List ℕ → List (Key × X) → Type 0
NoneOf ip es = AllByRecursion (λ e. of_source ip e.0 ≡ false) es

above_ip : {X : Type 0} (ip : List ℕ) (k : Key) (es : List (Key × X)) → ip_cmp ip k.ip ≡ Less → T (below_all key_cmp k es) → NoneOf ip es
above_ip ip k [] h t = tt
above_ip ip k (e ∷ es) h t =
    (other_source ip e.0 (lt_le ip k.ip e.0.ip h (lower_ip k e.0 (is_less (key_cmp k e.0) (T_left _ _ t)))), above_ip ip k es h (T_right _ _ t))

-- the address of each of these keys is at least this one
abbrev pub From : {X : Type 0} → List ℕ → List (Key × X) → Type 0
From ip es = AllByRecursion (λ e. is_le (ip_cmp ip e.0.ip) ≡ true) es

-- after the first other address none is left
pub none_left : {X : Type 0} (ip : List ℕ) (e : Key × X) (es : List (Key × X)) → T (is_sorted key_cmp (e ∷ es)) → From ip (e ∷ es) → of_source ip e.0 ≡ false → NoneOf ip (e ∷ es)
none_left ip e es s from apart =
    let less = strictly ip e.0.ip from.0 (λ h. true≢false (sym ((source_decides ip e.0).1 (sym h)) ∙ apart)) in
    (other_source ip e.0 less, above_ip ip e.0 es less (T_left _ _ s))

pub none_kept : {X : Type 0} (ip : List ℕ) (h : Key → Bool) (es : List (Key × X)) → NoneOf ip es → filter (λ k. of_source ip k && h k) (map (λ e. e.0) es) ≡ []
none_kept ip h [] n = refl
none_kept ip h (e ∷ es) n = ap (λ b. cond (b && h e.0) (e.0 ∷ filter (λ k. of_source ip k && h k) (map (λ e. e.0) es)) (filter (λ k. of_source ip k && h k) (map (λ e. e.0) es))) n.0 ∙ none_kept ip h es n.1

pub none_counted : {X : Type 0} (ip : List ℕ) (es : List (Key × X)) → NoneOf ip es → filter (of_source ip) (map (λ e. e.0) es) ≡ []
none_counted ip [] n = refl
none_counted ip (e ∷ es) n = ap (λ b. cond b (e.0 ∷ filter (of_source ip) (map (λ e. e.0) es)) (filter (of_source ip) (map (λ e. e.0) es))) n.0 ∙ none_counted ip es n.1

-- ---- the part of a map from the first key of an address on

abbrev pub first : List ℕ → Key
first ip = record { ip = ip; port = 0; id = 0 }

-- the entries from the first key of the address on
abbrev pub onward : {X : Type 0} → List ℕ → List (Key × X) → List (Key × X)
onward ip es = entries_between key_cmp (Included (first ip)) Unbounded es

le_then : (r s : Ordering) → is_le (ordering_then r s) ≡ true → is_le r ≡ true
le_then Less s h = refl
le_then Equal s h = refl
le_then Greater s h = h

contained_ip : (ip : List ℕ) (k : Key) → range_contains key_cmp (Included (first ip)) Unbounded k ≡ true → is_le (ip_cmp ip k.ip) ≡ true
contained_ip ip k h = le_then (ip_cmp ip k.ip) _ (and_parts _ true h).0

zero_le : (n : ℕ) → is_le (nat_cmp 0 n) ≡ true
zero_le n = search rules

least_numbers : (r s : Ordering) → is_le r ≡ true → is_le s ≡ true → is_le (ordering_then r s) ≡ true
least_numbers Less s h g = refl
least_numbers Equal s h g = g
least_numbers Greater s h g = h

of_contained : (ip : List ℕ) (k : Key) → of_source ip k ≡ true → range_contains key_cmp (Included (first ip)) Unbounded k ≡ true
of_contained ip k h =
    let same = (source_decides ip k).0 h in
    and_from _ true (least_numbers (ip_cmp ip k.ip) _ (subst (λ (x : List ℕ). is_le (ip_cmp ip x) ≡ true) (sym same) (itself_le ip))
    (least_numbers (nat_cmp 0 k.port) _ (zero_le k.port) (zero_le k.id))) refl

pub onward_from : {X : Type 0} (ip : List ℕ) (es : List (Key × X)) → From ip (onward ip es)
onward_from ip [] = tt
onward_from {X = X} ip (e ∷ es) = step (range_contains key_cmp (Included (first ip)) Unbounded e.0) refl (onward_from ip es)
  where
    step : (b : Bool) → range_contains key_cmp (Included (first ip)) Unbounded e.0 ≡ b → From ip (onward ip es) → From ip (cond b (e ∷ onward ip es) (onward ip es))
    step true h rec = (contained_ip ip e.0 h, rec)
    step false h rec = rec

pub onward_sorted : {X : Type 0} (ip : List ℕ) (es : List (Key × X)) → T (is_sorted key_cmp es) → T (is_sorted key_cmp (onward ip es))
onward_sorted ip es s = is_sorted-where_key key_cmp (range_contains key_cmp (Included (first ip)) Unbounded) es s

filter_inside : (p r : Key → Bool) → ((k : Key) → p k ≡ true → r k ≡ true) → (ks : List Key) → filter p (filter r ks) ≡ filter p ks
filter_inside p r inside [] = refl
filter_inside p r inside (k ∷ ks) = step (p k) refl (r k) refl (filter_inside p r inside ks)
  where
    step : (b : Bool) → p k ≡ b → (c : Bool) → r k ≡ c → filter p (filter r ks) ≡ filter p ks → filter p (cond c (k ∷ filter r ks) (filter r ks)) ≡ cond b (k ∷ filter p ks) (filter p ks)
    step true e true g rec = ap (λ d. cond d (k ∷ filter p (filter r ks)) (filter p (filter r ks))) e ∙ ap (λ (q : List Key). k ∷ q) rec
    step true e false g rec = absurd (true≢false (sym (inside k e) ∙ g))
    step false e true g rec = ap (λ d. cond d (k ∷ filter p (filter r ks)) (filter p (filter r ks))) e ∙ rec
    step false e false g rec = rec

-- all keys of the address stand there
pub onward_all : {X : Type 0} (ip : List ℕ) (es : List (Key × X)) → filter (of_source ip) (map (λ e. e.0) (onward ip es)) ≡ filter (of_source ip) (map (λ e. e.0) es)
onward_all ip es =
    ap (filter (of_source ip)) (keys_kept (range_contains key_cmp (Included (first ip)) Unbounded) es)
    ∙ filter_inside (of_source ip) (range_contains key_cmp (Included (first ip)) Unbounded) (of_contained ip) (map (λ e. e.0) es)

pub onward_new : {X : Type 0} (ip : List ℕ) (h : Key → Bool) (es : List (Key × X)) → filter (λ k. of_source ip k && h k) (map (λ e. e.0) (onward ip es)) ≡ filter (λ k. of_source ip k && h k) (map (λ e. e.0) es)
onward_new ip h es =
    ap (filter (λ k. of_source ip k && h k)) (keys_kept (range_contains key_cmp (Included (first ip)) Unbounded) es)
    ∙ filter_inside (λ k. of_source ip k && h k) (range_contains key_cmp (Included (first ip)) Unbounded) (λ k e. of_contained ip k (and_parts _ _ e).0) (map (λ e. e.0) es)

-- ---- turns of a loop over them

-- what is left of the entries from the address on, at its first one
pub record Left {X : Type 0} (ip : List ℕ) (es : List (Key × X)) : Type 0 where
  pub sorted : T (is_sorted key_cmp es)
  pub from : From ip es

pub left_begun : {X : Type 0} (ip : List ℕ) (es : List (Key × X)) → T (is_sorted key_cmp es) → Left ip (onward ip es)
left_begun ip es s = record { sorted = onward_sorted ip es s; from = onward_from ip es }

pub left_next : {X : Type 0} (ip : List ℕ) (e : Key × X) (es : List (Key × X)) → Left ip (e ∷ es) → Left ip es
left_next ip e es h = record { sorted = T_right _ _ h.sorted; from = h.from.1 }

-- none of the address is left where the next key has another
pub left_other : {X : Type 0} (ip : List ℕ) (e : Key × X) (es : List (Key × X)) → Left ip (e ∷ es) → of_source ip e.0 ≡ false → NoneOf ip (e ∷ es)
left_other ip e es h other = none_left ip e es h.sorted h.from other

pub none_counts : {X : Type 0} (ip : List ℕ) (e : Key × X) (es : List (Key × X)) → Left ip (e ∷ es) → of_source ip e.0 ≡ false → length (filter (of_source ip) (map (λ f. f.0) (e ∷ es))) ≡ 0
none_counts ip e es h other = ap length (none_counted ip (e ∷ es) (left_other ip e es h other))

pub one_counts : {X : Type 0} (p : Key → Bool) (e : Key × X) (es : List (Key × X)) → p e.0 ≡ true → length (filter p (map (λ f. f.0) (e ∷ es))) ≡ length (filter p (map (λ f. f.0) es)) + 1
one_counts p e es h = ap (λ b. length (cond b (e.0 ∷ filter p (map (λ f. f.0) es)) (filter p (map (λ f. f.0) es)))) h ∙ suc_is (length (filter p (map (λ f. f.0) es)))
  where
    suc_is : (n : ℕ) → suc n ≡ n + 1
    suc_is n = omega arith

-- a key that doesn't pass makes no difference
pub one_out : {X : Type 0} (p : Key → Bool) (e : Key × X) (es : List (Key × X)) (n : ℕ) → p e.0 ≡ false → slice_get (filter p (map (λ f. f.0) (e ∷ es))) n ≡ slice_get (filter p (map (λ f. f.0) es)) n
one_out p e es n h = ap (λ b. slice_get (cond b (e.0 ∷ filter p (map (λ f. f.0) es)) (filter p (map (λ f. f.0) es))) n) h

-- one that passes is counted
pub one_in : {X : Type 0} (p : Key → Bool) (e : Key × X) (es : List (Key × X)) (n : ℕ) → p e.0 ≡ true → n ≢ 0 → slice_get (filter p (map (λ f. f.0) (e ∷ es))) n ≡ slice_get (filter p (map (λ f. f.0) es)) (n - 1)
one_in p e es n h some = ap (λ b. slice_get (cond b (e.0 ∷ filter p (map (λ f. f.0) es)) (filter p (map (λ f. f.0) es))) n) h ∙ step n some
  where
    less_one : (m : ℕ) → m ≡ suc m - 1
    less_one m = omega arith

    step : (m : ℕ) → m ≢ 0 → slice_get (e.0 ∷ filter p (map (λ f. f.0) es)) m ≡ slice_get (filter p (map (λ f. f.0) es)) (m - 1)
    step zero none = absurd (none refl)
    step (suc m) none = ap (slice_get (filter p (map (λ f. f.0) es))) (less_one m)

pub first_in : {X : Type 0} (p : Key → Bool) (e : Key × X) (es : List (Key × X)) → p e.0 ≡ true → slice_get (filter p (map (λ f. f.0) (e ∷ es))) 0 ≡ Some e.0
first_in p e es h = ap (λ b. slice_get (cond b (e.0 ∷ filter p (map (λ f. f.0) es)) (filter p (map (λ f. f.0) es))) 0) h

pub none_unfit : {X : Type 0} (ip : List ℕ) (h : Key → Bool) (e : Key × X) (es : List (Key × X)) (n : ℕ) → Left ip (e ∷ es) → of_source ip e.0 ≡ false → slice_get (filter (λ k. of_source ip k && h k) (map (λ f. f.0) (e ∷ es))) n ≡ None
none_unfit ip h e es n l other = ap (λ (ks : List Key). slice_get ks n) (none_kept ip h (e ∷ es) (left_other ip e es l other))
