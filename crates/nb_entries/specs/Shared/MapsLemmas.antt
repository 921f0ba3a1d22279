-- Finite maps by their look-ups: joins, maps made of keys, and tests of every entry.
use Rattle.std.proofs.Common.{◌≡◌, inl, inr, List, [], ◌∷◌, Bool, true, false, cond, Option, Some, None, refl, sym, ◌∙◌, ap, subst, ◌&&◌, ◌||◌, ◌++◌}
use Rattle.std.specs.declared.cmp.Ordering.{Ordering}
use Rattle.std.specs.declared.cmp.Ordering.TheVariants.{Less, Equal, Greater}
use Rattle.std.specs.Ordering.{eq_by_cmp, is_eq, is_lt, ordering_reverse}
use Rattle.std.specs.Cmp.{IsTotalOrder}
use Rattle.std.specs.List.{list_all, list_any, AllByRecursion}
use Rattle.std.specs.Prelude.{T}
use Rattle.std.specs.FinMap.{is_sorted}
use Rattle.std.specs.FinMap.Entries.{below_all}
use Rattle.std.proofs.lemmas.Bool.{true≢false, and_from, and_cases, and_parts}
use Rattle.std.proofs.lemmas.Option.{none-some, same_Some}
use Rattle.std.specs.FinMap as map
use Rattle.nb_entries.specs.Maps.{first_of, joined_at, joined_onto, joined_with, joined, union, with_some, at_keys}

-- ---- options and lists

pub none_from : {X : Type 0} (o : Option X) → ((x : X) → o ≡ Some x → ⊥) → o ≡ None
none_from None h = refl
none_from (Some x) h = absurd (h x refl)

pub all_append : {X : Type 0} (P : X → Type 0) (xs ys : List X) → AllByRecursion P xs → AllByRecursion P ys → AllByRecursion P (xs ++ ys)
all_append P [] ys h g = g
all_append P (x ∷ xs) ys h g = (h.0, all_append P xs ys h.1 g)

-- ---- keys

is_equal : (r : Ordering) → is_eq r ≡ true → r ≡ Equal
is_equal Less e = absurd (true≢false (sym e))
is_equal Equal e = refl
is_equal Greater e = absurd (true≢false (sym e))

-- two keys that tie are one
pub one_key : {K : Type 0} {R : K → K → Ordering} → map.IsAntisymmetric R → (q k : K) → eq_by_cmp R q k ≡ true → q ≡ k
one_key {R = R} exact q k e = exact q k (is_equal (R q k) e)

self_equal : (r : Ordering) → r ≡ ordering_reverse r → r ≡ Equal
self_equal Less e = absurd (true≢false (ap is_lt e))
self_equal Equal e = refl
self_equal Greater e = absurd (true≢false (sym (ap is_lt e)))

-- a key ties with itself
pub tied_self : {K : Type 0} {R : K → K → Ordering} → IsTotalOrder R → (q : K) → eq_by_cmp R q q ≡ true
tied_self {R = R} o q = ap is_eq (self_equal (R q q) (o.antisymm q q))

-- ---- joins

pub at-none : {X : Type 0} (f : X → X → X) (a : Option X) → a ≡ joined_at f a None
at-none f None = refl
at-none f (Some x) = refl

pub at-some : {X : Type 0} (f : X → X → X) (a : Option X) (y : X) → Some (joined_onto f a y) ≡ joined_at f a (Some y)
at-some f None y = refl
at-some f (Some x) y = refl

get-joined_with : {K X : Type 0} {R : K → K → Ordering} (o : IsTotalOrder R) (exact : map.IsAntisymmetric R) (f : X → X → X) (m : map.FinMap R X) (es : List (K × X)) (q : K) → map.get (joined_with f m es) q ≡ joined_at f (map.get m q) (map.find R q es)
get-joined_with {R = R} o exact f m [] q = at-none f (map.get m q)
get-joined_with {R = R} o exact f m (e ∷ es) q =
    map.get-insert o (joined_with f m es) e.0 (joined_onto f (map.get m e.0) e.1) q
    ∙ step (eq_by_cmp R q e.0) refl (get-joined_with o exact f m es q)
  where
    step : (b : Bool) → eq_by_cmp R q e.0 ≡ b → map.get (joined_with f m es) q ≡ joined_at f (map.get m q) (map.find R q es) → cond b (Some (joined_onto f (map.get m e.0) e.1)) (map.get (joined_with f m es) q) ≡ joined_at f (map.get m q) (cond b (Some e.1) (map.find R q es))
    step true h rec = ap (λ k. Some (joined_onto f (map.get m k) e.1)) (sym (one_key exact q e.0 h)) ∙ at-some f (map.get m q) e.1
    step false h rec = rec

-- what a join has at a key
pub get-joined : {K X : Type 0} {R : K → K → Ordering} (o : IsTotalOrder R) (exact : map.IsAntisymmetric R) (f : X → X → X) (m n : map.FinMap R X) (q : K) → map.get (joined f m n) q ≡ joined_at f (map.get m q) (map.get n q)
get-joined o exact f m n q = get-joined_with o exact f m (map.entries n) q ∙ ap (joined_at f (map.get m q)) (sym (map.get-entries n q))

first_joined : {X : Type 0} (a b : Option X) → joined_at (λ x y. x) a b ≡ first_of a b
first_joined None b = refl
first_joined (Some x) None = refl
first_joined (Some x) (Some y) = refl

-- what a union has at a key
pub get-union : {K X : Type 0} {R : K → K → Ordering} (o : IsTotalOrder R) (exact : map.IsAntisymmetric R) (m n : map.FinMap R X) (q : K) → map.get (union m n) q ≡ first_of (map.get m q) (map.get n q)
get-union o exact m n q = get-joined o exact (λ x y. x) m n q ∙ first_joined (map.get m q) (map.get n q)

pub at-comm : {X : Type 0} (f : X → X → X) → ((x y : X) → f x y ≡ f y x) → (a b : Option X) → joined_at f a b ≡ joined_at f b a
at-comm f h None None = refl
at-comm f h None (Some y) = refl
at-comm f h (Some x) None = refl
at-comm f h (Some x) (Some y) = ap Some (h x y)

-- a join of maps is commutative if that of their values is
pub joined-comm : {K X : Type 0} {R : K → K → Ordering} (o : IsTotalOrder R) (exact : map.IsAntisymmetric R) (f : X → X → X) → ((x y : X) → f x y ≡ f y x) → (m n : map.FinMap R X) → joined f m n ≡ joined f n m
joined-comm o exact f h m n = map.same_map o exact _ _ (λ q. get-joined o exact f m n q ∙ at-comm f h (map.get m q) (map.get n q) ∙ sym (get-joined o exact f n m q))

pub at-assoc : {X : Type 0} (f : X → X → X) → ((x y z : X) → f (f x y) z ≡ f x (f y z)) → (a b c : Option X) → joined_at f (joined_at f a b) c ≡ joined_at f a (joined_at f b c)
at-assoc f h None b c = refl
at-assoc f h (Some x) None c = refl
at-assoc f h (Some x) (Some y) None = refl
at-assoc f h (Some x) (Some y) (Some z) = ap Some (h x y z)

-- a join of maps is associative if that of their values is
pub joined-assoc : {K X : Type 0} {R : K → K → Ordering} (o : IsTotalOrder R) (exact : map.IsAntisymmetric R) (f : X → X → X) → ((x y z : X) → f (f x y) z ≡ f x (f y z)) → (m n p : map.FinMap R X) → joined f (joined f m n) p ≡ joined f m (joined f n p)
joined-assoc o exact f h m n p = map.same_map o exact _ _ (λ q.
    get-joined o exact f (joined f m n) p q
    ∙ ap (λ a. joined_at f a (map.get p q)) (get-joined o exact f m n q)
    ∙ at-assoc f h (map.get m q) (map.get n q) (map.get p q)
    ∙ sym (get-joined o exact f m (joined f n p) q ∙ ap (joined_at f (map.get m q)) (get-joined o exact f n p q)))

pub at-idem : {X : Type 0} (f : X → X → X) (a : Option X) → ((x : X) → a ≡ Some x → f x x ≡ x) → joined_at f a a ≡ a
at-idem f None h = refl
at-idem f (Some x) h = ap Some (h x refl)

-- a map joined with itself is itself if that is so of each value
pub joined-idem : {K X : Type 0} {R : K → K → Ordering} (o : IsTotalOrder R) (exact : map.IsAntisymmetric R) (f : X → X → X) (m : map.FinMap R X) → ((q : K) (x : X) → map.get m q ≡ Some x → f x x ≡ x) → joined f m m ≡ m
joined-idem o exact f m h = map.same_map o exact _ _ (λ q. get-joined o exact f m m q ∙ at-idem f (map.get m q) (h q))

-- the empty map joined with another is that one
pub joined-empty : {K X : Type 0} {R : K → K → Ordering} (o : IsTotalOrder R) (exact : map.IsAntisymmetric R) (f : X → X → X) (m : map.FinMap R X) → joined f map.empty m ≡ m
joined-empty {R = R} o exact f m = map.same_map o exact _ _ (λ q. get-joined o exact f map.empty m q ∙ ap (λ a. joined_at f a (map.get m q)) (map.get-empty R q))

-- ---- maps made of keys

get-with_some : {K X : Type 0} {R : K → K → Ordering} (o : IsTotalOrder R) (m : map.FinMap R X) (k : K) (a : Option X) (q : K) → map.get (with_some m k a) q ≡ cond (eq_by_cmp R q k) (first_of a (map.get m q)) (map.get m q)
get-with_some {R = R} o m k None q = same (eq_by_cmp R q k)
  where
    same : (b : Bool) → map.get m q ≡ cond b (map.get m q) (map.get m q)
    same true = refl
    same false = refl
get-with_some o m k (Some x) q = map.get-insert o m k x q

first_twice : {X : Type 0} (a b : Option X) (c : Bool) → b ≡ cond c a None → first_of a b ≡ a
first_twice None b true h = h
first_twice None b false h = h
first_twice (Some x) b c h = refl

-- what the map made of these keys has at a key
pub get-at_keys : {K X : Type 0} {R : K → K → Ordering} (o : IsTotalOrder R) (exact : map.IsAntisymmetric R) (f : K → Option X) (ks : List K) (q : K) → map.get (at_keys {R = R} f ks) q ≡ cond (list_any (eq_by_cmp R q) ks) (f q) None
get-at_keys {R = R} o exact f [] q = map.get-empty R q
get-at_keys {R = R} o exact f (k ∷ ks) q =
    get-with_some o (at_keys {R = R} f ks) k (f k) q
    ∙ step (eq_by_cmp R q k) refl (list_any (eq_by_cmp R q) ks) (get-at_keys {R = R} o exact f ks q)
  where
    step : (b : Bool) → eq_by_cmp R q k ≡ b → (c : Bool) → map.get (at_keys {R = R} f ks) q ≡ cond c (f q) None → cond b (first_of (f k) (map.get (at_keys {R = R} f ks) q)) (map.get (at_keys {R = R} f ks) q) ≡ cond (b || c) (f q) None
    step true h c rec = ap (λ j. first_of (f j) (map.get (at_keys {R = R} f ks) q)) (sym (one_key exact q k h)) ∙ first_twice (f q) _ c rec
    step false h c rec = rec

-- ---- a test of every entry

all_found : {K X : Type 0} {R : K → K → Ordering} → map.IsAntisymmetric R → (P : K → X → Bool) (es : List (K × X)) → list_all (λ e. P e.0 e.1) es ≡ true → (q : K) (x : X) → map.find R q es ≡ Some x → P q x ≡ true
all_found exact P [] h q x e = absurd (none-some x e)
all_found {R = R} exact P (e ∷ es) h q x f = step (eq_by_cmp R q e.0) refl f (all_found exact P es (and_parts _ _ h).1 q x)
  where
    step : (b : Bool) → eq_by_cmp R q e.0 ≡ b → cond b (Some e.1) (map.find R q es) ≡ Some x → (map.find R q es ≡ Some x → P q x ≡ true) → P q x ≡ true
    step true k f rec = let same = same_Some e.1 x f in subst (λ y. P q y ≡ true) same (subst (λ k. P k e.1 ≡ true) (sym (one_key exact q e.0 k)) (and_parts _ _ h).0)
    step false k f rec = rec f

pub lt_not_eq : (r : Ordering) → T (is_lt r) → is_eq r ≡ false
lt_not_eq Less h = refl
lt_not_eq Equal h = absurd h
lt_not_eq Greater h = absurd h

pub T_left : (a b : Bool) → T (a && b) → T a
T_left true b h = tt
T_left false b h = absurd h

pub T_right : (a b : Bool) → T (a && b) → T b
T_right true b h = h
T_right false b h = absurd h

pub T_both : (a b : Bool) → T a → T b → T (a && b)
T_both true b g h = h
T_both false b g h = absurd g

pub below_none : {K X : Type 0} (R : K → K → Ordering) (q : K) (es : List (K × X)) → T (below_all R q es) → map.find R q es ≡ None
below_none R q [] h = refl
below_none R q (e ∷ es) h = ap (λ b. cond b (Some e.1) (map.find R q es)) (lt_not_eq (R q e.0) (T_left _ _ h)) ∙ below_none R q es (T_right _ _ h)

-- what is found after an entry is found from it on too
pub found_later : {K X : Type 0} (R : K → K → Ordering) → map.IsAntisymmetric R → (q k : K) (v x : X) (es : List (K × X)) (b : Bool) → eq_by_cmp R q k ≡ b → map.find R k es ≡ None → map.find R q es ≡ Some x → cond b (Some v) (map.find R q es) ≡ Some x
found_later R exact q k v x es true e none f = let same : q ≡ k = one_key exact q k e in absurd (none-some x (sym none ∙ ap (λ j. map.find R j es) (sym same) ∙ f))
found_later R exact q k v x es false e none f = f

-- the first entry is found
pub found_first : {K X : Type 0} (R : K → K → Ordering) → IsTotalOrder R → (e : K × X) (es : List (K × X)) → map.find R e.0 (e ∷ es) ≡ Some e.1
found_first R o e es = ap (λ b. cond b (Some e.1) (map.find R e.0 es)) (tied_self o e.0)

all_from : {K X : Type 0} (R : K → K → Ordering) → IsTotalOrder R → map.IsAntisymmetric R → (P : K → X → Bool) (es : List (K × X)) → T (is_sorted R es) → ((q : K) (x : X) → map.find R q es ≡ Some x → P q x ≡ true) → list_all (λ e. P e.0 e.1) es ≡ true
all_from R o exact P [] s h = refl
all_from R o exact P (e ∷ es) s h =
    and_from _ _ (h e.0 e.1 (found_first R o e es))
    (all_from R o exact P es (T_right _ _ s) (λ q x f. h q x (found_later R exact q e.0 e.1 x es (eq_by_cmp R q e.0) refl (below_none R e.0 es (T_left _ _ s)) f)))

-- an entry at which a test fails
pub record Fails {K X : Type 0} (P : K → X → Bool) (look : K → Option X) : Type 0 where
  pub key : K
  pub value : X
  pub found : look key ≡ Some value
  pub fails : P key value ≡ false

fails_from : {K X : Type 0} (R : K → K → Ordering) → IsTotalOrder R → map.IsAntisymmetric R → (P : K → X → Bool) (es : List (K × X)) → T (is_sorted R es) → list_all (λ e. P e.0 e.1) es ≡ false → Fails P (λ q. map.find R q es)
fails_from R o exact P [] s h = absurd (true≢false h)
fails_from R o exact P (e ∷ es) s h = elim (and_cases (P e.0 e.1) _ h) [
  | inl here ↦ record { key = e.0; value = e.1; found = found_first R o e es; fails = here }
  | inr there ↦ let w = fails_from R o exact P es (T_right _ _ s) there in
      record { key = w.key; value = w.value; found = found_later R exact w.key e.0 e.1 w.value es (eq_by_cmp R w.key e.0) refl (below_none R e.0 es (T_left _ _ s)) w.found; fails = w.fails }
]

-- a test of every entry holds exactly if it holds of what each look-up finds
pub all_entries_found : {K X : Type 0} {R : K → K → Ordering} → map.IsAntisymmetric R → (P : K → X → Bool) (m : map.FinMap R X) → list_all (λ e. P e.0 e.1) (map.entries m) ≡ true → (q : K) (x : X) → map.get m q ≡ Some x → P q x ≡ true
all_entries_found exact P m h q x f = all_found exact P (map.entries m) h q x (sym (map.get-entries m q) ∙ f)

pub all_entries_from : {K X : Type 0} {R : K → K → Ordering} → IsTotalOrder R → map.IsAntisymmetric R → (P : K → X → Bool) (m : map.FinMap R X) → ((q : K) (x : X) → map.get m q ≡ Some x → P q x ≡ true) → list_all (λ e. P e.0 e.1) (map.entries m) ≡ true
all_entries_from {R = R} o exact P m h = all_from R o exact P (map.entries m) (map.entries_sorted m) (λ q x f. h q x (map.get-entries m q ∙ f))

-- and where it doesn't hold, there is an entry at which it fails
pub entry_fails : {K X : Type 0} {R : K → K → Ordering} → IsTotalOrder R → map.IsAntisymmetric R → (P : K → X → Bool) (m : map.FinMap R X) → list_all (λ e. P e.0 e.1) (map.entries m) ≡ false → Fails P (map.get m)
entry_fails {R = R} o exact P m h =
    let w = fails_from R o exact P (map.entries m) (map.entries_sorted m) h in
    record { key = w.key; value = w.value; found = map.get-entries m w.key ∙ w.found; fails = w.fails }

-- the finite map of a sorted list has that list
pub sorted_entries : {K X : Type 0} {R : K → K → Ordering} (o : IsTotalOrder R) → map.IsAntisymmetric R → (es : List (K × X)) → T (is_sorted R es) → map.entries (map.from_entries {R = R} es) ≡ es
sorted_entries {R = R} o exact es s =
    ap map.entries (map.same_map o exact _ _ (λ q. map.get-from_entries o es q ∙ sym (map.get-from_sorted R es q s)))
    ∙ map.entries-from_sorted R es s
