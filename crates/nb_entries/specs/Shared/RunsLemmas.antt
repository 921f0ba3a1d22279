-- Rows of runs and maps of bytes: each is made of the other.
use Rattle.std.proofs.Common.{◌≡◌, ◌<◌, ◌≤◌, ℕ, suc, ◌+◌, ◌==◌, length, List, [], ◌∷◌, ◌++◌, Bool, true, false, cond, inl, inr, refl, sym, ◌∙◌, ap, subst, arith}
use Rattle.std.specs.Prelude.{T}
use Rattle.std.specs.declared.cmp.Ordering.TheVariants.{Less, Equal, Greater}
use Rattle.std.specs.Ordering.{nat_cmp, is_lt}
use Rattle.std.specs.Cmp.{nat_cmp_total, nat_cmp_is}
use Rattle.std.specs.FinMap as maps
use Rattle.std.specs.FinMap.{nat_cmp-IsAntisymmetric, is_sorted}
use Rattle.std.specs.FinMap.Entries.{below_all}
use Rattle.std.proofs.lemmas.Bool.{cases_lt, eqb-true, eq-eqb}
use Rattle.std.proofs.lemmas.Bool.Decides.{nat_tests}
use Rattle.nb_entries.specs.Cover.{placed}
use Rattle.nb_entries.specs.Runs.{RunValue, run_end, StartsPast, AreApart, places_of, map_of_runs, in_front, runs_in, runs_of_map}
use Rattle.nb_entries.specs.Shared.MapsLemmas.{T_left, T_right, T_both, sorted_entries}

-- ---- the places of runs

places-in_front : (i x : ℕ) (rs : List RunValue) → places_of (in_front i x rs) ≡ (i, x) ∷ places_of rs
places-in_front i x [] = refl
places-in_front i x (r ∷ rs) = step (r.start == i + 1) refl
  where
    step : (b : Bool) → (r.start == i + 1) ≡ b → places_of (cond b (record { start = i; bytes = x ∷ r.bytes } ∷ rs) (record { start = i; bytes = x ∷ [] } ∷ r ∷ rs)) ≡ (i, x) ∷ places_of (r ∷ rs)
    step true h = ap (λ n. (i, x) ∷ (placed n r.bytes ++ places_of rs)) (sym (eqb-true r.start (i + 1) h))
    step false h = refl

-- the places of the runs of a row of places are that row
pub places-runs : (es : List (ℕ × ℕ)) → places_of (runs_in es) ≡ es
places-runs [] = refl
places-runs (e ∷ es) = places-in_front e.0 e.1 (runs_in es) ∙ ap (λ fs. e ∷ fs) (places-runs es)

-- the finite map of a map's entries is that map
pub entries_back : (m : maps.FinMap nat_cmp ℕ) → maps.from_entries {R = nat_cmp} (maps.entries m) ≡ m
entries_back m = maps.same_map nat_cmp_total nat_cmp-IsAntisymmetric _ _ (λ q. maps.get-from_entries nat_cmp_total (maps.entries m) q ∙ sym (maps.get-entries m q))

pub given_back : (m : maps.FinMap nat_cmp ℕ) → map_of_runs (runs_of_map m) ≡ m
given_back m = ap (maps.from_entries {R = nat_cmp}) (places-runs (maps.entries m)) ∙ entries_back m

-- ---- runs in a row

-- the first of the runs, if there is one, starts elsewhere than at n
abbrev pub NotAt : ℕ → List RunValue → Type 0
NotAt n [] = Unit {0}
NotAt n (r ∷ rs) = (r.start == n) ≡ false

not_eq : (m n : ℕ) → n < m → (m == n) ≡ false
not_eq m n h = grind (arith, nat_tests)

pub past_not : (n : ℕ) (rs : List RunValue) → StartsPast n rs → NotAt n rs
past_not n [] h = tt
past_not n (r ∷ rs) h = not_eq r.start n h

alone : (i x : ℕ) (rs : List RunValue) → NotAt (i + 1) rs → in_front i x rs ≡ record { start = i; bytes = x ∷ [] } ∷ rs
alone i x [] h = refl
alone i x (r ∷ rs) h = ap (λ b. cond b (record { start = i; bytes = x ∷ r.bytes } ∷ rs) (record { start = i; bytes = x ∷ [] } ∷ r ∷ rs)) h

in_one : (i x : ℕ) (r : RunValue) (rs : List RunValue) → r.start ≡ i + 1 → in_front i x (r ∷ rs) ≡ record { start = i; bytes = x ∷ r.bytes } ∷ rs
in_one i x r rs h = ap (λ b. cond b (record { start = i; bytes = x ∷ r.bytes } ∷ rs) (record { start = i; bytes = x ∷ [] } ∷ r ∷ rs)) (eq-eqb r.start (i + 1) h)

-- bytes in a row, before bytes that don't follow the last of them, are a run
pub run_first : (xs : List ℕ) (i y : ℕ) (es : List (ℕ × ℕ)) → NotAt (i + suc (length xs)) (runs_in es) → runs_in (placed i (y ∷ xs) ++ es) ≡ record { start = i; bytes = y ∷ xs } ∷ runs_in es
run_first [] i y es h = alone i y (runs_in es) h
run_first (z ∷ zs) i y es h =
    let on : i + suc (suc (length zs)) ≡ i + 1 + suc (length zs) = omega arith in
    ap (in_front i y) (run_first zs (i + 1) z es (subst (λ n. NotAt n (runs_in es)) on h))
    ∙ in_one i y (record { start = i + 1; bytes = z ∷ zs }) (runs_in es) refl

run_then : (s : ℕ) (xs : List ℕ) (rs : List RunValue) → 0 < length xs → StartsPast (s + length xs) rs → runs_in (places_of rs) ≡ rs → runs_in (placed s xs ++ places_of rs) ≡ record { start = s; bytes = xs } ∷ rs
run_then s [] rs h p e = absurd (omega arith)
run_then s (y ∷ ys) rs h p e =
    run_first ys s y (places_of rs) (subst (NotAt (s + suc (length ys))) (sym e) (past_not (s + suc (length ys)) rs p))
    ∙ ap (λ ss. record { start = s; bytes = y ∷ ys } ∷ ss) e

runs-places : (rs : List RunValue) → AreApart rs → runs_in (places_of rs) ≡ rs
runs-places [] h = refl
runs-places (r ∷ rs) h = run_then r.start r.bytes rs h.0 h.1.0 (runs-places rs h.1.1)

-- ---- places that ascend

less_is : (x y : ℕ) → x < y → T (is_lt (nat_cmp x y))
less_is x y h = subst (λ o. T (is_lt o)) (nat_cmp_is x y Less h) tt

is_less : (x y : ℕ) → T (is_lt (nat_cmp x y)) → x < y
is_less x y h = elim (cases_lt x y) [
  | inl below ↦ below
  | inr above ↦ elim (cases_lt y x) [
    | inl past ↦ absurd (subst (λ o. T (is_lt o)) (sym (nat_cmp_is x y Greater past)) h)
    | inr least ↦ let same : x ≡ y = omega (arith, above, least) in absurd (subst (λ o. T (is_lt o)) (sym (nat_cmp_is x y Equal same)) h)
  ]
]

past_less : (m n : ℕ) (rs : List RunValue) → m ≤ n → StartsPast n rs → StartsPast m rs
past_less m n [] h p = tt
past_less m n (r ∷ rs) h p = omega (arith, h, p)

below_placed : (k i : ℕ) (xs : List ℕ) (es : List (ℕ × ℕ)) → k < i → T (below_all nat_cmp k es) → T (below_all nat_cmp k (placed i xs ++ es))
below_placed k i [] es h t = t
below_placed k i (x ∷ xs) es h t = T_both _ _ (less_is k i h) (below_placed k (i + 1) xs es (omega (arith, h)) t)

below_places : (k : ℕ) (rs : List RunValue) → StartsPast k rs → AreApart rs → T (below_all nat_cmp k (places_of rs))
below_places k [] p a = tt
below_places k (r ∷ rs) p a =
    let least : k ≤ run_end r = omega (arith, p) in
    below_placed k r.start r.bytes (places_of rs) p (below_places k rs (past_less k (run_end r) rs least a.1.0) a.1.1)

pub sorted_placed : (i : ℕ) (xs : List ℕ) (es : List (ℕ × ℕ)) → T (is_sorted nat_cmp es) → ((k : ℕ) → k < i + length xs → T (below_all nat_cmp k es)) → T (is_sorted nat_cmp (placed i xs ++ es))
sorted_placed i [] es s h = s
sorted_placed i (x ∷ xs) es s h =
    let here : i < i + suc (length xs) = omega arith in
    let next : i < i + 1 = omega arith in
    T_both _ _ (below_placed i (i + 1) xs es next (h i here))
    (sorted_placed (i + 1) xs es s (λ k l. (let further : k < i + suc (length xs) = omega (arith, l) in h k further)))

pub sorted_places : (rs : List RunValue) → AreApart rs → T (is_sorted nat_cmp (places_of rs))
sorted_places [] a = tt
sorted_places (r ∷ rs) a = sorted_placed r.start r.bytes (places_of rs) (sorted_places rs a.1.1)
    (λ k l. (let least : k ≤ run_end r = omega (arith, l) in below_places k rs (past_less k (run_end r) rs least a.1.0) a.1.1))

-- the runs of the map of runs that are apart
pub runs_back : (rs : List RunValue) → AreApart rs → runs_of_map (map_of_runs rs) ≡ rs
runs_back rs a = ap runs_in (sorted_entries nat_cmp_total nat_cmp-IsAntisymmetric (places_of rs) (sorted_places rs a)) ∙ runs-places rs a

pub one_row : (rs ss : List RunValue) → AreApart rs → AreApart ss → map_of_runs rs ≡ map_of_runs ss → rs ≡ ss
one_row rs ss a b e = sym (runs_back rs a) ∙ ap runs_of_map e ∙ runs_back ss b

-- ---- the runs of a map are apart

past_front : (k i x : ℕ) (rs : List RunValue) → k < i → StartsPast k (in_front i x rs)
past_front k i x [] h = h
past_front k i x (r ∷ rs) h = step (r.start == i + 1)
  where
    step : (b : Bool) → StartsPast k (cond b (record { start = i; bytes = x ∷ r.bytes } ∷ rs) (record { start = i; bytes = x ∷ [] } ∷ r ∷ rs))
    step true = h
    step false = h

past_in : (k : ℕ) (es : List (ℕ × ℕ)) → T (below_all nat_cmp k es) → StartsPast k (runs_in es)
past_in k [] t = tt
past_in k (e ∷ es) t = past_front k e.0 e.1 (runs_in es) (is_less k e.0 (T_left _ _ t))

past_next : (i m : ℕ) → i < m → (m == i + 1) ≡ false → i + 1 < m
past_next i m l h = grind (arith, nat_tests)

apart_front : (i x : ℕ) (rs : List RunValue) → AreApart rs → StartsPast i rs → AreApart (in_front i x rs)
apart_front i x [] a p = (omega arith, (tt, tt))
apart_front i x (r ∷ rs) a p = step (r.start == i + 1) refl
  where
    step : (b : Bool) → (r.start == i + 1) ≡ b → AreApart (cond b (record { start = i; bytes = x ∷ r.bytes } ∷ rs) (record { start = i; bytes = x ∷ [] } ∷ r ∷ rs))
    step true h =
        let same : r.start ≡ i + 1 = eqb-true r.start (i + 1) h in
        let on : r.start + length r.bytes ≡ i + suc (length r.bytes) = omega (arith, same) in
        (omega arith, (subst (λ n. StartsPast n rs) on a.1.0, a.1.1))
    step false h =
        let other : i + 1 < r.start = past_next i r.start p h in
        (omega arith, (other, a))

apart_in : (es : List (ℕ × ℕ)) → T (is_sorted nat_cmp es) → AreApart (runs_in es)
apart_in [] s = tt
apart_in (e ∷ es) s = apart_front e.0 e.1 (runs_in es) (apart_in es (T_right _ _ s)) (past_in e.0 es (T_left _ _ s))

pub runs_apart : (m : maps.FinMap nat_cmp ℕ) → AreApart (runs_of_map m)
runs_apart m = apart_in (maps.entries m) (maps.entries_sorted m)
