-- The entries of one finite map joined into another one after the other, in the order of their keys.
use Rattle.nb_table.proofs.Common.{◌≡◌, ℕ, ◌+◌, List, [], ◌∷◌, Bool, true, false, cond, filter, length, Option, Some, None, is_some, is_none, refl, sym, ◌∙◌, ap, ap₂, arith, ◌++◌, map, option_and_then, suc, zero, take, drop, slice_get, subst, T, Ordering, eq_by_cmp, is_lt, IsTotalOrder, eq_by_cmp_equiv, is_sorted, below_all, same_entries, joined_at, joined_onto, joined, first_of, joined_each, with_each, put_back, taken_back, one_key, get-joined, below_none, lt_not_eq, T_left, T_right, tied_self, T_both, at-none, at-some, filter_map, cons_option, none-some, same_Some, slice_get_within, get_or_from_slice_get, map_more, joined_all, AreTaken}
use Rattle.nb_entries.specs.Shared.MarksLemmas.{first_alone}
use Rattle.std.specs.FinMap as maps

pub get-joined_each : {K X : Type 0} {R : K → K → Ordering} (o : IsTotalOrder R) (exact : maps.IsAntisymmetric R) (f : X → X → X) (m : maps.FinMap R X) (es : List (K × X)) → T (is_sorted R es) → (q : K) → maps.get (joined_each f m es) q ≡ joined_at f (maps.get m q) (maps.find R q es)
get-joined_each o exact f m [] s q = at-none f (maps.get m q)
get-joined_each {R = R} o exact f m (e ∷ es) s q =
    get-joined_each o exact f (maps.insert m e.0 (joined_onto f (maps.get m e.0) e.1)) es (T_right _ _ s) q
    ∙ ap (λ a. joined_at f a (maps.find R q es)) (maps.get-insert o m e.0 (joined_onto f (maps.get m e.0) e.1) q)
    ∙ step (eq_by_cmp R q e.0) refl
  where
    step : (b : Bool) → eq_by_cmp R q e.0 ≡ b → joined_at f (cond b (Some (joined_onto f (maps.get m e.0) e.1)) (maps.get m q)) (maps.find R q es) ≡ joined_at f (maps.get m q) (cond b (Some e.1) (maps.find R q es))
    step true h =
        let one : q ≡ e.0 = one_key exact q e.0 h in
        let none : maps.find R q es ≡ None = ap (λ k. maps.find R k es) one ∙ below_none R e.0 es (T_left _ _ s) in
        ap (joined_at f (Some (joined_onto f (maps.get m e.0) e.1))) none
        ∙ at-some f (maps.get m e.0) e.1
        ∙ ap (λ k. joined_at f (maps.get m k) (Some e.1)) (sym one)
    step false h = refl

-- the entries of a map joined in turn are the join of both maps
pub joined_each_is : {K X : Type 0} {R : K → K → Ordering} (o : IsTotalOrder R) (exact : maps.IsAntisymmetric R) (f : X → X → X) (m n : maps.FinMap R X) → joined_each f m (maps.entries n) ≡ joined f m n
joined_each_is {R = R} o exact f m n = maps.same_map o exact _ _ (λ q.
    get-joined_each o exact f m (maps.entries n) (maps.entries_sorted n) q
    ∙ ap (joined_at f (maps.get m q)) (sym (maps.get-entries n q))
    ∙ sym (get-joined o exact f m n q))

-- ---- how many keys a join has

is_none_cond : {X : Type 0} (b : Bool) (v : X) (a : Option X) → b ≡ false → is_none (cond b (Some v) a) ≡ is_none a
is_none_cond b v a e = ap (λ c. is_none (cond c (Some v) a)) e

count : Bool → ℕ → ℕ
count true n = n + 1
count false n = n

-- the keys of es that m lacks
abbrev pub lacking : {K X : Type 0} {R : K → K → Ordering} → maps.FinMap R X → List (K × X) → List K
lacking m es = filter (λ k. is_none (maps.get m k)) (map (λ e. e.0) es)

lacking-cons : {K X : Type 0} {R : K → K → Ordering} (m : maps.FinMap R X) (e : K × X) (es : List (K × X)) → length (lacking m (e ∷ es)) ≡ count (is_none (maps.get m e.0)) (length (lacking m es))
unfolding count
lacking-cons m e es = step (is_none (maps.get m e.0))
  where
    step : (b : Bool) → length (cond b (e.0 ∷ lacking m es) (lacking m es)) ≡ count b (length (lacking m es))
    step true = omega arith
    step false = refl

-- a key below all of these makes no difference to which of them are lacking
lacking-below : {K X : Type 0} {R : K → K → Ordering} (o : IsTotalOrder R) (m : maps.FinMap R X) (k : K) (v : X) (es : List (K × X)) → T (below_all R k es) → lacking (maps.insert m k v) es ≡ lacking m es
lacking-below o m k v [] h = refl
lacking-below {R = R} o m k v (e ∷ es) h =
    ap₂ (λ b (r : List _). cond b (e.0 ∷ r) r)
    (ap is_none (maps.get-insert o m k v e.0) ∙ is_none_cond (eq_by_cmp R e.0 k) v (maps.get m e.0) ((eq_by_cmp_equiv o).symm e.0 k ∙ lt_not_eq (R k e.0) (T_left _ _ h)))
    (lacking-below o m k v es (T_right _ _ h))

len-step : {X : Type 0} (a : Option X) (n r : ℕ) → cond (is_some a) n (n + 1) + r ≡ n + count (is_none a) r
unfolding count
len-step None n r = omega arith
len-step (Some x) n r = refl

len-joined_each : {K X : Type 0} {R : K → K → Ordering} (o : IsTotalOrder R) (f : X → X → X) (m : maps.FinMap R X) (es : List (K × X)) → T (is_sorted R es) → maps.len (joined_each f m es) ≡ maps.len m + length (lacking m es)
len-joined_each o f m [] s = omega arith
len-joined_each {R = R} o f m (e ∷ es) s =
    let v = joined_onto f (maps.get m e.0) e.1 in
    len-joined_each o f (maps.insert m e.0 v) es (T_right _ _ s)
    ∙ ap₂ (λ a b. a + b) (maps.len-insert o m e.0 v) (ap length (lacking-below o m e.0 v es (T_left _ _ s)))
    ∙ len-step (maps.get m e.0) (maps.len m) (length (lacking m es))
    ∙ sym (ap (λ r. maps.len m + r) (lacking-cons m e es))

-- a join has the keys of the one, and those of the other that it lacks
pub len-joined : {K X : Type 0} {R : K → K → Ordering} (o : IsTotalOrder R) (exact : maps.IsAntisymmetric R) (f : X → X → X) (m n : maps.FinMap R X) → maps.len (joined f m n) ≡ maps.len m + length (lacking m (maps.entries n))
len-joined o exact f m n = ap maps.len (sym (joined_each_is o exact f m n)) ∙ len-joined_each o f m (maps.entries n) (maps.entries_sorted n)

-- ---- Ascending entries put into a map one after the other make the map of them.

pub each_more : {K X : Type 0} {R : K → K → Ordering} (m : maps.FinMap R X) (es fs : List (K × X)) → with_each m (es ++ fs) ≡ with_each (with_each m es) fs
each_more m [] fs = refl
each_more m (e ∷ es) fs = each_more (maps.insert m e.0 e.1) es fs

get-each : {K X : Type 0} {R : K → K → Ordering} (o : IsTotalOrder R) → maps.IsAntisymmetric R → (m : maps.FinMap R X) (es : List (K × X)) → T (is_sorted R es) → (q : K) → maps.get (with_each m es) q ≡ first_of (maps.find R q es) (maps.get m q)
get-each o exact m [] s q = refl
get-each {R = R} o exact m (e ∷ es) s q =
    get-each o exact (maps.insert m e.0 e.1) es (T_right _ _ s) q
    ∙ ap (first_of (maps.find R q es)) (maps.get-insert o m e.0 e.1 q)
    ∙ step (eq_by_cmp R q e.0) refl
  where
    step : (b : Bool) → eq_by_cmp R q e.0 ≡ b → first_of (maps.find R q es) (cond b (Some e.1) (maps.get m q)) ≡ first_of (cond b (Some e.1) (maps.find R q es)) (maps.get m q)
    step true h = ap (λ a. first_of a (Some e.1)) (ap (λ k. maps.find R k es) (one_key exact q e.0 h) ∙ below_none R e.0 es (T_left _ _ s))
    step false h = refl

pub each_is : {K X : Type 0} {R : K → K → Ordering} (o : IsTotalOrder R) → maps.IsAntisymmetric R → (es : List (K × X)) → T (is_sorted R es) → with_each maps.empty es ≡ maps.from_entries {R = R} es
each_is {R = R} o exact es s = maps.same_map o exact _ _ (λ q.
    get-each o exact maps.empty es s q
    ∙ ap (first_of (maps.find R q es)) (maps.get-empty R q)
    ∙ first_alone (maps.find R q es)
    ∙ sym (maps.get-from_entries o es q))

-- one more entry is put
pub each_put : {K X : Type 0} {R : K → K → Ordering} (m new : maps.FinMap R X) (done : List (K × X)) (k : K) (v w : X) → m ≡ with_each maps.empty done → new ≡ maps.insert m k w → w ≡ v → new ≡ with_each maps.empty (done ++ (k, v) ∷ [])
each_put m new done k v w h put same =
    put ∙ ap (λ q. maps.insert q k w) h ∙ ap (λ x. maps.insert (with_each maps.empty done) k x) same ∙ sym (each_more maps.empty done ((k, v) ∷ []))

-- ---- What a function gives of the keys of a map, in their order: the keys at which it gives nothing make no difference.

-- the key with what it gives, if it gives anything, before the others
abbrev with_one : {K D : Type 0} → K → Option D → List (K × D) → List (K × D)
with_one k None r = r
with_one k (Some d) r = (k, d) ∷ r

-- the keys of the entries with what f gives of them
abbrev got : {K X D : Type 0} → (K → Option D) → List (K × X) → List (K × D)
got f [] = []
got f (e ∷ es) = with_one e.0 (f e.0) (got f es)

got_values : {K X D : Type 0} (f : K → Option D) (es : List (K × X)) → map (λ e. e.1) (got f es) ≡ filter_map f (map (λ e. e.0) es)
got_values f [] = refl
got_values {D = D} f (e ∷ es) = step (f e.0) (got_values f es)
  where
    step : (o : Option D) → map (λ e. e.1) (got f es) ≡ filter_map f (map (λ e. e.0) es) → map (λ e. e.1) (with_one e.0 o (got f es)) ≡ cons_option o (filter_map f (map (λ e. e.0) es))
    step None rec = rec
    step (Some d) rec = ap (λ (r : List D). d ∷ r) rec

got_below : {K X D : Type 0} (R : K → K → Ordering) (f : K → Option D) (k : K) (es : List (K × X)) → T (below_all R k es) → T (below_all R k (got f es))
got_below R f k [] h = tt
got_below {D = D} R f k (e ∷ es) h = step (f e.0) (got_below R f k es (T_right _ _ h))
  where
    step : (o : Option D) → T (below_all R k (got f es)) → T (below_all R k (with_one e.0 o (got f es)))
    step None rec = rec
    step (Some d) rec = T_both (is_lt (R k e.0)) _ (T_left _ _ h) rec

got_sorted : {K X D : Type 0} (R : K → K → Ordering) (f : K → Option D) (es : List (K × X)) → T (is_sorted R es) → T (is_sorted R (got f es))
got_sorted R f [] s = tt
got_sorted {D = D} R f (e ∷ es) s = step (f e.0) (got_sorted R f es (T_right _ _ s))
  where
    step : (o : Option D) → T (is_sorted R (got f es)) → T (is_sorted R (with_one e.0 o (got f es)))
    step None rec = rec
    step (Some d) rec = T_both (below_all R e.0 (got f es)) _ (got_below R f e.0 es (T_left _ _ s)) rec

got_found : {K X D : Type 0} {R : K → K → Ordering} → maps.IsAntisymmetric R → (f : K → Option D) (es : List (K × X)) → T (is_sorted R es) → (q : K) → maps.find R q (got f es) ≡ option_and_then (λ _. f q) (maps.find R q es)
got_found exact f [] s q = refl
got_found {D = D} {R = R} exact f (e ∷ es) s q = step (f e.0) refl (eq_by_cmp R q e.0) refl (got_found exact f es (T_right _ _ s) q)
  where
    step : (o : Option D) → f e.0 ≡ o → (b : Bool) → eq_by_cmp R q e.0 ≡ b → maps.find R q (got f es) ≡ option_and_then (λ _. f q) (maps.find R q es) → maps.find R q (with_one e.0 o (got f es)) ≡ option_and_then (λ _. f q) (cond b (Some e.1) (maps.find R q es))
    step None g true h rec =
        let one = one_key exact q e.0 h in
        ap (λ k. maps.find R k (got f es)) one ∙ below_none R e.0 (got f es) (got_below R f e.0 es (T_left _ _ s)) ∙ sym g ∙ ap f (sym one)
    step None g false h rec = rec
    step (Some d) g true h rec = ap (λ b. cond b (Some d) (maps.find R q (got f es))) h ∙ sym g ∙ ap f (sym (one_key exact q e.0 h))
    step (Some d) g false h rec = ap (λ b. cond b (Some d) (maps.find R q (got f es))) h ∙ rec

-- maps of which f gives the same at each key give the same in order
pub same_given : {K X D : Type 0} {R : K → K → Ordering} (o : IsTotalOrder R) (exact : maps.IsAntisymmetric R) (f : K → Option D) (m n : maps.FinMap R X) → ((q : K) → option_and_then (λ _. f q) (maps.get m q) ≡ option_and_then (λ _. f q) (maps.get n q)) → filter_map f (maps.keys m) ≡ filter_map f (maps.keys n)
same_given {R = R} o exact f m n h =
    let find_in = λ (t : maps.FinMap R _) (q : _). got_found exact f (maps.entries t) (maps.entries_sorted t) q ∙ ap (option_and_then (λ _. f q)) (sym (maps.get-entries t q)) in
    sym (got_values f (maps.entries m))
    ∙ ap (map (λ e. e.1)) (same_entries R o exact (got f (maps.entries m)) (got f (maps.entries n))
    (got_sorted R f (maps.entries m) (maps.entries_sorted m)) (got_sorted R f (maps.entries n) (maps.entries_sorted n))
    (λ q. find_in m q ∙ h q ∙ sym (find_in n q)))
    ∙ got_values f (maps.entries n)

-- ---- Others joined one after the other: each is taken in its turn.

-- each of the list is taken in its turn, along the list
abbrev pub are_taken : {X : Type 0} → (X → X → X) → (X → X → Type 0) → X → List X → Type 0
are_taken f T x [] = Unit {0}
are_taken f T x (y ∷ ys) = T x y × are_taken f T (f x y) ys

-- and so each is at its place
pub each_is_taken : {X : Type 0} (f : X → X → X) (T : X → X → Type 0) (x : X) (ys : List X) → are_taken f T x ys → AreTaken f T x ys
each_is_taken f T x [] h i y e = absurd (none-some y e)
each_is_taken f T x (z ∷ zs) h zero y e = subst (λ q. T x q) (same_Some z y e) h.0
each_is_taken f T x (z ∷ zs) h (suc i) y e = each_is_taken f T (f x z) zs h.1 i y e

one_more : {X : Type 0} (f : X → X → X) (T : X → X → Type 0) (x : X) (ys : List X) (y : X) → are_taken f T x ys → T (joined_all f x ys) y → are_taken f T x (ys ++ y ∷ [])
one_more f T x [] y h t = (t, tt)
one_more f T x (z ∷ zs) y h t = (h.0, one_more f T (f x z) zs y h.1 t)

joined_more : {X : Type 0} (f : X → X → X) (x : X) (ys : List X) (y : X) → joined_all f x (ys ++ y ∷ []) ≡ f (joined_all f x ys) y
joined_more f x [] y = refl
joined_more f x (z ∷ zs) y = joined_more f (f x z) zs y

one_longer : {J X : Type 0} (c : J → X) (os : List J) (n : ℕ) (o : J) → slice_get os n ≡ Some o → map c (take (n + 1) os) ≡ map c (take n os) ++ c o ∷ []
one_longer c os n o e =
    map_more c os n o (slice_get_within os n o e)
    ∙ ap (λ q. map c (take n os) ++ c q ∷ []) (get_or_from_slice_get os n o o e)

-- the next one, joined to those before it
pub next_is_joined : {J X : Type 0} (f : X → X → X) (c : J → X) (x : X) (os : List J) (n : ℕ) (o : J) → slice_get os n ≡ Some o → joined_all f x (map c (take (n + 1) os)) ≡ f (joined_all f x (map c (take n os))) (c o)
next_is_joined f c x os n o e = ap (joined_all f x) (one_longer c os n o e) ∙ joined_more f x (map c (take n os)) (c o)

-- the next one, taken after those before it
pub next_is_taken : {J X : Type 0} (f : X → X → X) (T : X → X → Type 0) (c : J → X) (x : X) (os : List J) (n : ℕ) (o : J) → slice_get os n ≡ Some o → are_taken f T x (map c (take n os)) → T (joined_all f x (map c (take n os))) (c o) → are_taken f T x (map c (take (n + 1) os))
next_is_taken f T c x os n o e h t = subst (are_taken f T x) (sym (one_longer c os n o e)) (one_more f T x (map c (take n os)) (c o) h t)

-- the first of those that are left, and what is left after it
pub next_left : {J : Type 0} (os : List J) (n : ℕ) (o : J) (rest : List J) → drop n os ≡ o ∷ rest → (slice_get os n ≡ Some o) × (drop (n + 1) os ≡ rest)
next_left [] zero o rest e = absurd (cc)
next_left [] (suc n) o rest e = absurd (cc)
next_left (p ∷ os) zero o rest e = (cc, cc)
next_left (p ∷ os) (suc n) o rest e =
    let next = next_left os n o rest e in
    let more : suc n + 1 ≡ suc (n + 1) = omega arith in
    (next.0, ap (λ k. drop k (p ∷ os)) more ∙ next.1)

-- what holds of a value holds of what it is
pub carried : {B X : Type 0} (P : B → X → Type 0) (a b : B) (x y : X) → a ≡ b → x ≡ y → P a x → P b y
carried P a b x y e f h = subst (λ z. P b z) f (subst (λ d. P d x) e h)

-- ---- Changes of a map's values, taken back: the map is what it was.

-- the last one is put back first
pub taken_back-more : {K X : Type 0} {R : K → K → Ordering} (m : maps.FinMap R X) (es : List (K × Option X)) (k : K) (o : Option X) → taken_back m (es ++ (k, o) ∷ []) ≡ taken_back (put_back m k o) es
taken_back-more m [] k o = refl
taken_back-more m (e ∷ es) k o = ap (λ q. put_back q e.0 e.1) (taken_back-more m es k o)

-- what stood at a key stands there again, and the rest was never changed
over : {K X : Type 0} {R : K → K → Ordering} → maps.IsAntisymmetric R → (m : maps.FinMap R X) (k : K) (v : X) (a : Option X) → maps.get m k ≡ a → (q : K) (b : Bool) → eq_by_cmp R q k ≡ b → cond b a (cond b (Some v) (maps.get m q)) ≡ maps.get m q
over exact m k v a h q true e = sym (ap (maps.get m) (one_key exact q k e) ∙ h)
over exact m k v a h q false e = refl

back : {K X : Type 0} {R : K → K → Ordering} (o : IsTotalOrder R) (exact : maps.IsAntisymmetric R) (m : maps.FinMap R X) (k : K) (v : X) (a : Option X) → maps.get m k ≡ a → put_back (maps.insert m k v) k a ≡ m
back {R = R} o exact m k v None h = maps.same_map o exact _ _ (λ q.
    maps.get-remove o (maps.insert m k v) k q
    ∙ ap (cond (eq_by_cmp R q k) None) (maps.get-insert o m k v q)
    ∙ over exact m k v None h q (eq_by_cmp R q k) refl)
back {R = R} o exact m k v (Some x) h =
    let n = maps.insert m k v in
    let held = maps.get-insert o m k v k ∙ ap (λ b. cond b (Some v) (maps.get m k)) (tied_self o k) in
    ap (λ g. cond (is_some g) (maps.insert n k x) n) held
    ∙ maps.same_map o exact _ _ (λ q.
    maps.get-insert o n k x q
    ∙ ap (cond (eq_by_cmp R q k) (Some x)) (maps.get-insert o m k v q)
    ∙ over exact m k v (Some x) h q (eq_by_cmp R q k) refl)

-- one more change, of which is noted what stood there
pub noted : {K X : Type 0} {R : K → K → Ordering} (o : IsTotalOrder R) (exact : maps.IsAntisymmetric R) (m n : maps.FinMap R X) (k : K) (v : X) (before : Option X) (es new : List (K × Option X)) → n ≡ maps.insert m k v → before ≡ maps.get m k → new ≡ es ++ (k, before) ∷ [] → taken_back n new ≡ taken_back m es
noted o exact m n k v before es new changed was more =
    ap (taken_back n) more
    ∙ taken_back-more n es k before
    ∙ ap (λ q. taken_back q es) (ap₂ (λ q a. put_back q k a) changed was ∙ back o exact m k v (maps.get m k) refl)

-- what is put back at a key that is held, at one that isn't, and where there was none
pub put_held : {K X : Type 0} {R : K → K → Ordering} (m : maps.FinMap R X) (k : K) (o : Option X) (v w : X) → o ≡ Some w → maps.get m k ≡ Some v → maps.insert m k w ≡ put_back m k o
put_held m k o v w was held = sym (ap (put_back m k) was ∙ ap (λ g. cond (is_some g) (maps.insert m k w) m) held)

pub put_missing : {K X : Type 0} {R : K → K → Ordering} (m : maps.FinMap R X) (k : K) (o : Option X) (w : X) → o ≡ Some w → maps.get m k ≡ None → m ≡ put_back m k o
put_missing m k o w was missing = sym (ap (put_back m k) was ∙ ap (λ g. cond (is_some g) (maps.insert m k w) m) missing)

-- what a key has, put in again, changes nothing
pub put_same : {K X : Type 0} {R : K → K → Ordering} (o : IsTotalOrder R) (exact : maps.IsAntisymmetric R) (m n : maps.FinMap R X) (k : K) (v w : X) → Some v ≡ maps.get m k → w ≡ v → n ≡ maps.insert m k w → n ≡ m
put_same {R = R} o exact m n k v w held same is = is ∙ ap (maps.insert m k) same ∙ maps.same_map o exact _ _ (λ q. maps.get-insert o m k v q ∙ step q (eq_by_cmp R q k) refl)
  where
    step : (q : _) (b : Bool) → eq_by_cmp R q k ≡ b → cond b (Some v) (maps.get m q) ≡ maps.get m q
    step q true e = held ∙ ap (maps.get m) (sym (one_key exact q k e))
    step q false e = refl
