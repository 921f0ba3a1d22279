-- Rows of runs: what a look-up finds in them, and how rows that are apart are cut and put together.
use Rattle.nb_entries.proofs.Common.{◌≡◌, ◌<◌, ◌≤◌, ◌+◌, ◌-◌, ◌++◌, ℕ, suc, Bool, true, false, cond, nat_le, inl, inr, List, [], ◌∷◌, length, take, drop, min, get_or, map, slice_get, Some, None, refl, sym, ap, ap₂, ◌∙◌, subst, arith, length-take, length-drop, take-append-drop, drop-cons, zero, add-one, slice_set, slice_index_or, leb-true, le-leb, lt-leb, take-map, drop-map, get_or-take, get_or-drop, get_or_default, slice_get_within, slice_get-get_or, slice_get_past, AllByRecursion, nat_cmp, nat_cmp_total, placed, first_of, RunValue, run_end, StartsPast, AreApart, places_of, map_of_runs, byte_in, look_in, EndBefore, value_of, values_of, StartTo, StartAfter, first_either, first_of_three, find-placed, find-append, IsNonDecreasingBy-from_all_adjacent}
use Rattle.std.proofs.lemmas.List.Elements.{All-map, All-from_recursion, recursion_from_All}
use Rattle.std.specs.FinMap as maps
use Rattle.std.proofs.lemmas.Grind.{common_steps}
use Rattle.std.specs.List.Sorted.{IsNonDecreasingBy}
use Rattle.nb_entries.specs.declared.cover.runs.Run.{Run}

-- ---- the byte of a run at a place

-- a run has the byte x at the place q
pub record Has (r : RunValue) (q x : ℕ) : Type 0 where
  pub from : r.start ≤ q
  pub is : slice_get r.bytes (q - r.start) ≡ Some x

pub has_of : (r : RunValue) (q x : ℕ) → byte_in r q ≡ Some x → Has r q x
has_of r q x e = step (nat_le r.start q) refl e
  where
    step : (b : Bool) → nat_le r.start q ≡ b → cond b (slice_get r.bytes (q - r.start)) None ≡ Some x → Has r q x
    step true h e = record { from = leb-true r.start q h; is = e }
    step false h e = absurd (cc)

pub has_below : (r : RunValue) (q x : ℕ) → byte_in r q ≡ Some x → q < run_end r
has_below r q x e =
    let h = has_of r q x e in
    let inside = slice_get_within r.bytes (q - r.start) x h.is in omega arith

pub has_from : (r : RunValue) (q x : ℕ) → byte_in r q ≡ Some x → r.start ≤ q
has_from r q x e = (has_of r q x e).from

pub byte_on : (r : RunValue) (q k : ℕ) → q ≡ r.start + k → byte_in r q ≡ slice_get r.bytes k
byte_on r q k e =
    let from : r.start ≤ q = omega arith in
    let place : q - r.start ≡ k = omega arith in
    ap (λ b. cond b (slice_get r.bytes (q - r.start)) None) (le-leb r.start q from) ∙ ap (slice_get r.bytes) place

pub byte_off : (r : RunValue) (q : ℕ) → q < r.start → byte_in r q ≡ None
byte_off r q h = ap (λ b. cond b (slice_get r.bytes (q - r.start)) None) (lt-leb r.start q h)

pub byte_past : (r : RunValue) (q : ℕ) → run_end r ≤ q → byte_in r q ≡ None
byte_past r q h = byte_on r q (q - r.start) (omega arith) ∙ slice_get_past r.bytes (q - r.start) (omega arith)

pub byte_within : (r : RunValue) (q : ℕ) → r.start ≤ q → q < run_end r → (x : ℕ) × (byte_in r q ≡ Some x)
byte_within r q f b = (get_or r.bytes (q - r.start) 0, byte_on r q (q - r.start) (omega arith) ∙ slice_get-get_or r.bytes (q - r.start) 0 (omega arith))

-- ---- look-ups

pub look-places : (rs : List RunValue) (q : ℕ) → maps.find nat_cmp q (places_of rs) ≡ look_in rs q
look-places [] q = refl
look-places (r ∷ rs) q = find-append nat_cmp (placed r.start r.bytes) (places_of rs) q ∙ ap₂ first_of (find-placed r.start r.bytes q) (look-places rs q)

-- a look-up in the map of runs
pub get-runs : (rs : List RunValue) (q : ℕ) → maps.get (map_of_runs rs) q ≡ look_in rs q
get-runs rs q = maps.get-from_entries nat_cmp_total (places_of rs) q ∙ look-places rs q

pub look-append : (rs ss : List RunValue) (q : ℕ) → look_in (rs ++ ss) q ≡ first_of (look_in rs q) (look_in ss q)
look-append [] ss q = refl
look-append (r ∷ rs) ss q = ap (first_of (byte_in r q)) (look-append rs ss q) ∙ sym (first_of_three (byte_in r q) (look_in rs q) (look_in ss q))

-- what runs that end before n have lies at least two places before it
pub look_before : (n : ℕ) (rs : List RunValue) → EndBefore n rs → (q x : ℕ) → look_in rs q ≡ Some x → q + 1 < n
look_before n [] h q x e = absurd (cc)
look_before n (r ∷ rs) h q x e = elim (first_either (byte_in r q) (look_in rs q) x e) [
  | inl f ↦ let inside = has_below r q x f in let ends = h.0 in omega (arith, inside, ends)
  | inr f ↦ look_before n rs h.1 q x f
]

-- what runs that start past n have lies past it
pub look_past : (n : ℕ) (rs : List RunValue) → StartsPast n rs → AreApart rs → (q x : ℕ) → look_in rs q ≡ Some x → n < q
look_past n [] p a q x e = absurd (cc)
look_past n (r ∷ rs) p a q x e = elim (first_either (byte_in r q) (look_in rs q) x e) [
  | inl f ↦ let from = has_from r q x f in omega (arith, from, p)
  | inr f ↦ let rest = look_past (run_end r) rs a.1.0 a.1.1 q x f in omega (arith, rest, p)
]

-- ---- rows that are apart

past_front : (n : ℕ) (rs ss : List RunValue) → StartsPast n (rs ++ ss) → StartsPast n rs
past_front n [] ss h = tt
past_front n (r ∷ rs) ss h = h

pub apart_front : (rs ss : List RunValue) → AreApart (rs ++ ss) → AreApart rs
apart_front [] ss a = tt
apart_front (r ∷ rs) ss a = (a.0, (past_front (run_end r) rs ss a.1.0, apart_front rs ss a.1.1))

pub apart_back : (rs ss : List RunValue) → AreApart (rs ++ ss) → AreApart ss
apart_back [] ss a = a
apart_back (r ∷ rs) ss a = apart_back rs ss a.1.1

seam_past : (n : ℕ) (rs : List RunValue) (t : RunValue) (ss : List RunValue) → StartsPast n (rs ++ t ∷ ss) → AreApart (rs ++ t ∷ ss) → n < t.start
seam_past n [] t ss p a = p
seam_past n (r ∷ rs) t ss p a = let rest = seam_past (run_end r) rs t ss a.1.0 a.1.1 in omega (arith, p, rest)

-- the runs before a run end before it starts
pub apart_seam : (rs : List RunValue) (t : RunValue) (ss : List RunValue) → AreApart (rs ++ t ∷ ss) → EndBefore t.start rs
apart_seam [] t ss a = tt
apart_seam (r ∷ rs) t ss a = (seam_past (run_end r) rs t ss a.1.0 a.1.1, apart_seam rs t ss a.1.1)

pub apart_both : (rs : List RunValue) (t : RunValue) (ss : List RunValue) → AreApart rs → EndBefore t.start rs → 0 < length t.bytes → StartsPast (run_end t) ss → AreApart ss → AreApart (rs ++ t ∷ ss)
apart_both [] t ss a e s p b = (s, (p, b))
apart_both (r ∷ []) t ss a e s p b = (a.0, (e.0, (s, (p, b))))
apart_both (r ∷ q ∷ rs) t ss a e s p b = (a.0, (a.1.0, apart_both (q ∷ rs) t ss a.1.1 e.1 s p b))

-- runs that end before either of two places
pub ends_min : (m n : ℕ) (rs : List RunValue) → EndBefore m rs → EndBefore n rs → EndBefore (min m n) rs
ends_min m n [] h k = tt
ends_min m n (r ∷ rs) h k = (let a = h.0 in let b = k.0 in omega (arith, a, b), ends_min m n rs h.1 k.1)

-- ---- elements and tests of each

-- a list about one of its elements
pub split_at : {X : Type 0} (xs : List X) (i : ℕ) (d : X) → i < length xs → xs ≡ take i xs ++ get_or xs i d ∷ drop (suc i) xs
split_at xs i d h = sym (take-append-drop i xs) ∙ ap (λ ys. take i xs ++ ys) (drop-cons xs i d h)

pub all_take : {X : Type 0} (P : RunValue → Type 0) (v : X → RunValue) (xs : List X) (n : ℕ) → ((k : ℕ) (d : X) → k < n → P (v (get_or xs k d))) → n ≤ length xs → AllByRecursion P (take n (map v xs))
all_take P v xs n h l =
    rw take-map (recursion_from_All P _ (All-map P v (take n xs) (λ k d b. (let inside : k < n = omega (arith, length-take n xs) in rw get_or-take (h k d inside)))))

pub all_drop : {X : Type 0} (P : RunValue → Type 0) (v : X → RunValue) (xs : List X) (n : ℕ) → ((k : ℕ) (d : X) → n ≤ k → k < length xs → P (v (get_or xs k d))) → AllByRecursion P (drop n (map v xs))
all_drop P v xs n h =
    rw drop-map (recursion_from_All P _ (All-map P v (drop n xs) (λ k d b. rw get_or-drop (h (n + k) d (omega arith) (omega (arith, length-drop n xs))))))

pub all_at : (P : RunValue → Type 0) (rs : List RunValue) (n k : ℕ) (d : RunValue) → AllByRecursion P (take n rs) → k < n → k < length rs → P (get_or rs k d)
all_at P rs n k d h a b = subst P (get_or-take n rs k d a) (All-from_recursion P (take n rs) h k d (omega (arith, length-take n rs)))

pub all_from_at : (P : RunValue → Type 0) (rs : List RunValue) (n k : ℕ) (d : RunValue) → AllByRecursion P (drop n rs) → n ≤ k → k < length rs → P (get_or rs k d)
all_from_at P rs n k d h a b =
    let place : n + (k - n) ≡ k = omega arith in
    subst P (get_or-drop n rs (k - n) d ∙ ap (λ j. get_or rs j d) place) (All-from_recursion P (drop n rs) h (k - n) d (omega (arith, length-drop n rs)))

-- ---- Lists of the code's runs, changed at a place, and their values.

-- a run put back with its value leaves the values
pub set_same : (xs : List Run) (i : ℕ) (new : Run) → value_of new ≡ value_of (slice_index_or xs i new) → values_of (slice_set xs i new) ≡ values_of xs
set_same [] i new same = refl
set_same (x ∷ xs) zero new same = ap (λ y. y ∷ values_of xs) same
set_same (x ∷ xs) (suc i) new same = ap (λ ys. value_of x ∷ ys) (set_same xs i new same)

pub ruleset set_steps = (common_steps, set_same)

-- ---- runs that are apart ascend

next_past : (xs : List Run) → AreApart (values_of xs) → (k : ℕ) (d : Run) → suc k < length xs → run_end (value_of (slice_index_or xs k d)) < (value_of (slice_index_or xs (suc k) d)).start
next_past [] a k d h = absurd (omega arith)
next_past (x ∷ []) a k d h = absurd (omega arith)
next_past (x ∷ y ∷ xs) a zero d h = a.1.0
next_past (x ∷ y ∷ xs) a (suc k) d h = next_past (y ∷ xs) a.1.1 k d (omega arith)

pub ends_rise : (xs : List Run) → AreApart (values_of xs) → IsNonDecreasingBy (λ (p : Run). run_end (value_of p)) xs
ends_rise xs a = IsNonDecreasingBy-from_all_adjacent (λ (p : Run). run_end (value_of p)) xs (λ k d h. rw add-one (let past = next_past xs a k d (omega (arith, h)) in omega (arith, past)))

starts_rise : (xs : List Run) → AreApart (values_of xs) → IsNonDecreasingBy (λ (p : Run). (value_of p).start) xs
starts_rise xs a = IsNonDecreasingBy-from_all_adjacent (λ (p : Run). (value_of p).start) xs (λ k d h. rw add-one (let past = next_past xs a k d (omega (arith, h)) in omega (arith, past)))

start_at : (xs : List Run) (n : ℕ) (r d : Run) → n < length xs → r ≡ slice_index_or xs n r → (value_of r).start ≡ (value_of (slice_index_or xs n d)).start
start_at xs n r d l e = ap (λ (x : Run). (value_of x).start) (e ∙ get_or_default xs n r d l)

-- where a run starts at a place or before it, those before it do too
pub start_to : (xs : List Run) (n place : ℕ) (r : Run) → AreApart (values_of xs) → n < length xs → r ≡ slice_index_or xs n r → (value_of r).start ≤ place → StartTo place (take (n + 1) (values_of xs))
start_to xs n place r a l e h =
    all_take (λ v. v.start ≤ place) value_of xs (n + 1) (λ k d b. (let rise = starts_rise xs a k n d (omega (arith, b)) l in let same = start_at xs n r d l e in omega (arith, rise, same, h))) (omega (arith, l))

-- where a run starts after a place, those after it do too
pub start_after : (xs : List Run) (n place : ℕ) (r : Run) → AreApart (values_of xs) → n < length xs → r ≡ slice_index_or xs n r → place < (value_of r).start → StartAfter place (drop n (values_of xs))
start_after xs n place r a l e h =
    all_drop (λ v. place < v.start) value_of xs n (λ k d m b. (let rise = starts_rise xs a n k d m b in let same = start_at xs n r d l e in omega (arith, rise, same, h)))
