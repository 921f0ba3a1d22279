-- The ranges of a map of bytes are apart, have its places and no other, and no other row of ranges does so.
use Rattle.nb_entries.proofs.Common.{◌≡◌, ◌<◌, ◌≤◌, ℕ, List, [], ◌∷◌, map, Some, None, Option, inl, inr, refl, sym, ◌∙◌, ap, ap₂, arith, Bool, true, cond, ◌+◌, suc, length, ◌^◌, subst, cases_lt, nat_cmp, first_of, OneHas, StartPast, RangesApart, AreRangesOf, range_of, ranges_of_map, RunValue, run_end, StartsPast, AreApart, runs_of_map, places_of, map_of_runs, byte_in, look_in, held_in, EndBy, first_either, bytes_below_decides, given_back, runs_apart, places-runs, no_marks, CoverFacts, bytes_lie_below, placed, BytesBelow, IsAwaited, awaited_of, taken, same_Some, places_in_map, MAX_LENGTH, length-append}
use Rattle.std.specs.FinMap as maps
use Rattle.nb_entries.specs.declared.ranges.PlaceRange.{PlaceRange}
use Rattle.nb_entries.proofs.KeptRuns.RunRowLemmas.{get-runs, has_below, has_from, byte_within}
use Rattle.std.specs.Option.{option_and_then}
use Rattle.nb_entries.specs.Shared.SavedLemmas.{few_runs, places_below, runs_end}

-- ---- the ranges of runs

start_past : (n : ℕ) (rs : List RunValue) → StartsPast n rs → StartPast n (map range_of rs)
start_past n [] h = tt
start_past n (r ∷ rs) h = h

ranges_apart : (rs : List RunValue) → AreApart rs → RangesApart (map range_of rs)
ranges_apart [] a = tt
ranges_apart (r ∷ rs) a = (omega (arith, a.0), (start_past (run_end r) rs a.1.0, ranges_apart rs a.1.1))

one_has : (rs : List RunValue) (i x : ℕ) → look_in rs i ≡ Some x → OneHas (map range_of rs) i
one_has [] i x e = absurd (cc)
one_has (r ∷ rs) i x e = elim (first_either (byte_in r i) (look_in rs i) x e) [
  | inl f ↦ inl (has_from r i x f, has_below r i x f)
  | inr f ↦ inr (one_has rs i x f)
]

first_there : (o p : Option ℕ) (x : ℕ) → p ≡ Some x → (y : ℕ) × (first_of o p ≡ Some y)
first_there None p x e = (x, e)
first_there (Some y) p x e = (y, refl)

has_one : (rs : List RunValue) (i : ℕ) → OneHas (map range_of rs) i → (x : ℕ) × (look_in rs i ≡ Some x)
has_one [] i h = absurd h
has_one (r ∷ rs) i (inl h) = let there = byte_within r i h.0 h.1 in (there.0, ap (λ o. first_of o (look_in rs i)) there.1)
has_one (r ∷ rs) i (inr h) = let there = has_one rs i h in first_there (byte_in r i) (look_in rs i) there.0 there.1

look_map : (m : maps.FinMap nat_cmp ℕ) (i : ℕ) → maps.get m i ≡ look_in (runs_of_map m) i
look_map m i = ap (λ (n : maps.FinMap nat_cmp ℕ). maps.get n i) (sym (given_back m)) ∙ get-runs (runs_of_map m) i

pub ranges_are : (m : maps.FinMap nat_cmp ℕ) → AreRangesOf m (ranges_of_map m)
ranges_are m = record {
  apart = ranges_apart (runs_of_map m) (runs_apart m);
  all = λ i x e. one_has (runs_of_map m) i x (sym (look_map m i) ∙ e);
  only = λ i h. (let there = has_one (runs_of_map m) i h in (there.0, look_map m i ∙ there.1));
}

-- ---- one row of ranges

-- the places of ranges that start past n lie past n
past_all : (n : ℕ) (rs : List PlaceRange) → StartPast n rs → RangesApart rs → (i : ℕ) → OneHas rs i → n < i
past_all n [] p a i h = absurd h
past_all n (r ∷ rs) p a i (inl h) = let from = h.0 in omega (arith, p, from)
past_all n (r ∷ rs) p a i (inr h) = let past = past_all r.to rs a.1.0 a.1.1 i h in let some = a.0 in omega (arith, p, past, some)

least_is : (r : PlaceRange) (rs : List PlaceRange) → RangesApart (r ∷ rs) → (i : ℕ) → OneHas (r ∷ rs) i → r.from ≤ i
least_is r rs a i (inl h) = h.0
least_is r rs a i (inr h) = let past = past_all r.to rs a.1.0 a.1.1 i h in let some = a.0 in omega (arith, past, some)

-- the first range ends no later than that of a row that has all its places
end_by : (r s : PlaceRange) (rs ss : List PlaceRange) → RangesApart (r ∷ rs) → RangesApart (s ∷ ss) → r.from ≡ s.from → ((i : ℕ) → OneHas (r ∷ rs) i → OneHas (s ∷ ss) i) → r.to ≤ s.to
end_by r s rs ss a b same h = elim (cases_lt s.to r.to) [
  | inl past ↦ elim (h s.to (inl (omega (arith, b.0), past))) [ inl g ↦ absurd (omega (arith, g.1)) | inr g ↦ absurd (omega (arith, past_all s.to ss b.1.0 b.1.1 s.to g)) ]
  | inr by ↦ by
]

-- what the others of a row have, the others of a row with the same first range and places have
others : (r s : PlaceRange) (rs ss : List PlaceRange) → RangesApart (r ∷ rs) → r.to ≡ s.to → ((i : ℕ) → OneHas (r ∷ rs) i → OneHas (s ∷ ss) i) → (i : ℕ) → OneHas rs i → OneHas ss i
others r s rs ss a same h i one = elim (h i (inr one)) [
  | inl f ↦ let past = past_all r.to rs a.1.0 a.1.1 i one in let below = f.1 in absurd (omega (arith, same, past, below))
  | inr f ↦ f
]

pub same_ranges : (rs ss : List PlaceRange) → RangesApart rs → RangesApart ss → ((i : ℕ) → OneHas rs i → OneHas ss i) → ((i : ℕ) → OneHas ss i → OneHas rs i) → rs ≡ ss
same_ranges [] [] a b h k = refl
same_ranges [] (s ∷ ss) a b h k = absurd (k s.from (inl (omega arith, b.0)))
same_ranges (r ∷ rs) [] a b h k = absurd (h r.from (inl (omega arith, a.0)))
same_ranges (r ∷ rs) (s ∷ ss) a b h k =
    let from : r.from ≡ s.from = omega (arith, least_is r rs a s.from (k s.from (inl (omega arith, b.0))), least_is s ss b r.from (h r.from (inl (omega arith, a.0)))) in
    let to : r.to ≡ s.to = omega (arith, end_by r s rs ss a b from h, end_by s r ss rs b a (sym from) k) in
    ap₂ (λ (q : PlaceRange) (qs : List PlaceRange). q ∷ qs) (λ i. record { from = from i; to = to i })
    (same_ranges rs ss a.1.1 b.1.1 (others r s rs ss a to h) (others s r ss rs b (sym to) k))

pub one_row_of_ranges : (m : maps.FinMap nat_cmp ℕ) (rs ss : List PlaceRange) → AreRangesOf m rs → AreRangesOf m ss → rs ≡ ss
one_row_of_ranges m rs ss a b = same_ranges rs ss a.apart b.apart
    (λ i h. (let there = a.only i h in b.all i there.0 there.1))
    (λ i h. (let there = b.only i h in a.all i there.0 there.1))

-- ---- A promise is awaited exactly where it reaches past all that is known.

found : (m : maps.FinMap nat_cmp ℕ) (o : Option ℕ) (r : ℕ) → option_and_then (λ q. cond (bytes_lie_below q m) (Some q) None) o ≡ Some r → (o ≡ Some r) × (bytes_lie_below r m ≡ true)
found m None r e = absurd (cc e)
found m (Some q) r e =
    let is = taken (bytes_lie_below q m) (Some q) r e in (is.1, ap (λ (n : ℕ). bytes_lie_below n m) (sym (same_Some q r is.1)) ∙ is.0)

pub awaited_is : (c : CoverFacts) (r : ℕ) → awaited_of c ≡ Some r → IsAwaited c r
awaited_is c r e =
    let is = found c.bytes c.marks.promise r e in
    record { promised = is.0; past = (bytes_below_decides r c.bytes).0 is.1 }

pub is_awaited : (c : CoverFacts) (r : ℕ) → IsAwaited c r → awaited_of c ≡ Some r
is_awaited c r h =
    ap (option_and_then (λ q. cond (bytes_lie_below q c.bytes) (Some q) None)) h.promised
    ∙ ap (λ (b : Bool). cond b (Some r) None) ((bytes_below_decides r c.bytes).1 h.past)

-- ---- Runs that are apart have as many bytes as their map has places.

length-placed : (i : ℕ) (xs : List ℕ) → length (placed i xs) ≡ length xs
length-placed i [] = refl
length-placed i (x ∷ xs) = ap suc (length-placed (i + 1) xs)

length-places : (rs : List RunValue) → length (places_of rs) ≡ held_in rs
length-places [] = refl
length-places (r ∷ rs) = simp (length-append, length-placed, length-places rs)

pub held-runs : (rs : List RunValue) → AreApart rs → held_in rs ≡ maps.len (map_of_runs rs)
held-runs rs a = sym (maps.len-entries (map_of_runs rs) ∙ ap length (places_in_map rs a) ∙ length-places rs)

-- a map's runs have its bytes
pub held-map : (m : maps.FinMap nat_cmp ℕ) → maps.len m ≡ held_in (runs_of_map m)
held-map m = maps.len-entries m ∙ ap length (sym (places-runs (maps.entries m))) ∙ length-places (runs_of_map m)

-- ---- Short covers have few runs and few bytes.

-- the runs of bytes that all lie below the limit end there at most
pub runs_end_of : (m : maps.FinMap nat_cmp ℕ) → BytesBelow MAX_LENGTH m → EndBy MAX_LENGTH (runs_of_map m)
runs_end_of m below = runs_end MAX_LENGTH (maps.entries m) (places_below (record { bytes = m; marks = no_marks }) below)

-- the runs of a short entry are no more than its places
pub few_runs_of : (c : CoverFacts) → BytesBelow MAX_LENGTH c.bytes → length (runs_of_map c.bytes) < 2 ^ 32
few_runs_of c below =
    omega (arith, few_runs MAX_LENGTH (runs_of_map c.bytes) (runs_apart c.bytes) (runs_end MAX_LENGTH (maps.entries c.bytes) (places_below c below)))

-- runs that are apart have no more bytes than there are places
held_past : (n k : ℕ) (rs : List RunValue) → AreApart rs → StartsPast k rs → EndBy n rs → k ≤ n → k + held_in rs ≤ n
held_past n k [] apart past h least = omega (arith, least)
held_past n k (r ∷ rs) apart past h least =
    omega (arith, past, held_past n (run_end r) rs apart.1.1 apart.1.0 h.1 h.0)

few_held : (n : ℕ) (rs : List RunValue) → AreApart rs → EndBy n rs → held_in rs ≤ n
few_held n [] apart h = omega arith
few_held n (r ∷ rs) apart h = omega (arith, held_past n (run_end r) rs apart.1.1 apart.1.0 h.1 h.0)

-- a short entry has no more bytes than a datagram may
pub few_bytes_of : (c : CoverFacts) → BytesBelow MAX_LENGTH c.bytes → maps.len c.bytes ≤ MAX_LENGTH
few_bytes_of c below =
    subst (λ (n : ℕ). n ≤ MAX_LENGTH) (sym (held-map c.bytes))
    (few_held MAX_LENGTH (runs_of_map c.bytes) (runs_apart c.bytes) (runs_end MAX_LENGTH (maps.entries c.bytes) (places_below c below)))
