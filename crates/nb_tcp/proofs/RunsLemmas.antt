-- Runs in the order of their places: looked up, put, and the first one dropped.
use Rattle.std.proofs.Common.{ℕ, ◌≡◌, ◌≤◌, ◌<◌, ◌+◌, ◌-◌, ◌&&◌, ◌⊎◌, inl, inr, cond, not, Less, Greater, true, false, List, [], ◌∷◌, ◌++◌, length, take, drop, length-drop, get_or, Option, None, Some, IsSome, refl, sym, ◌∙◌, ap, subst, arith}
use Rattle.std.specs.Ordering.{nat_cmp, is_lt, is_le, match_ordering}
use Rattle.std.specs.declared.ops.Bound.TheVariants.{Included, Unbounded}
use Rattle.std.specs.BTreeMap.{insert_entry}
use Rattle.std.specs.BTreeMap.Range.{entries_between}
use Rattle.std.proofs.lemmas.Bool.{cases_lt}
use Rattle.std.proofs.lemmas.Option.{same_Some}
use Rattle.std.specs.List.{slice_get}
use Rattle.std.proofs.lemmas.List.{get_or-drop, take_rest}
use Rattle.std.proofs.lemmas.Grind.{common_steps}
use Rattle.nb_tcp.specs.Order.{among, or_else}
use Rattle.nb_tcp.specs.Runs.{in_runs, AreRuns, charge_of, IsNextAfter, AreKnown, Puts}
use Rattle.nb_tcp.specs.declared.limits.TheConstants.{RUN_COST, LAST}
use Rattle.nb_tcp.proofs.ByteLemmas.{or_else_none, or_else_assoc, none_left, none_right, some_right, or_else_swaps, among_in, among_low, among_high, among_either, outside}

less : (a b : ℕ) → a < b → nat_cmp a b ≡ Less
less a b h = grind (arith, common_steps)

greater : (a b : ℕ) → b < a → nat_cmp a b ≡ Greater
greater a b h = grind (arith, common_steps)

not_less : (a b : ℕ) → b ≤ a → is_lt (nat_cmp a b) ≡ false
not_less a b h = grind (arith, common_steps)

is_less : (a b : ℕ) → a < b → is_lt (nat_cmp a b) ≡ true
is_less a b h = ap is_lt (less a b h)

at_most : (a b : ℕ) → a ≤ b → is_le (nat_cmp a b) ≡ true
at_most a b h = grind (arith, common_steps)

above_it : (a b : ℕ) → b < a → is_le (nat_cmp a b) ≡ false
above_it a b h = ap is_le (greater a b h)

-- the runs that begin at a place or before, and those that begin there or after
abbrev pub runs_to : ℕ → List (ℕ × List ℕ) → List (ℕ × List ℕ)
runs_to at runs = entries_between nat_cmp Unbounded (Included at) runs

abbrev pub runs_from : ℕ → List (ℕ × List ℕ) → List (ℕ × List ℕ)
runs_from at runs = entries_between nat_cmp (Included at) Unbounded runs

to_in : (at : ℕ) (x : ℕ × List ℕ) (runs : List (ℕ × List ℕ)) → x.0 ≤ at → runs_to at (x ∷ runs) ≡ x ∷ runs_to at runs
to_in at x runs h = ap (λ b. cond (true && not b) (x ∷ runs_to at runs) (runs_to at runs)) (not_less at x.0 h)

to_out : (at : ℕ) (x : ℕ × List ℕ) (runs : List (ℕ × List ℕ)) → at < x.0 → runs_to at (x ∷ runs) ≡ runs_to at runs
to_out at x runs h = ap (λ b. cond (true && not b) (x ∷ runs_to at runs) (runs_to at runs)) (is_less at x.0 h)

from_in : (at : ℕ) (x : ℕ × List ℕ) (runs : List (ℕ × List ℕ)) → at ≤ x.0 → runs_from at (x ∷ runs) ≡ x ∷ runs_from at runs
from_in at x runs h = ap (λ b. cond (b && not false) (x ∷ runs_from at runs) (runs_from at runs)) (at_most at x.0 h)

from_out : (at : ℕ) (x : ℕ × List ℕ) (runs : List (ℕ × List ℕ)) → x.0 < at → runs_from at (x ∷ runs) ≡ runs_from at runs
from_out at x runs h = ap (λ b. cond (b && not false) (x ∷ runs_from at runs) (runs_from at runs)) (above_it at x.0 h)

-- ---- where runs begin and end
pub last_of : (low : ℕ) (runs : List (ℕ × List ℕ)) → AreRuns low runs → low ≤ LAST
last_of low [] h = h
last_of low (x ∷ runs) h = omega (arith, h.0, last_of (x.0 + length x.1) runs h.2)

pub runs_weaker : (low lower : ℕ) (runs : List (ℕ × List ℕ)) → AreRuns low runs → lower ≤ low → AreRuns lower runs
runs_weaker low lower [] h le = omega (arith, h)
runs_weaker low lower (x ∷ runs) h le = (omega (arith, h.0), h.1, h.2)

pub none_before : (low : ℕ) (runs : List (ℕ × List ℕ)) (i : ℕ) → AreRuns low runs → i < low → in_runs runs i ≡ None
none_before low [] i h lt = refl
none_before low (x ∷ runs) i h lt =
    ap (λ y. or_else y (in_runs runs i)) (among_low (length x.1) x.0 x.1 i (omega (arith, h.0)))
    ∙ none_before (x.0 + length x.1) runs i h.2 (omega (arith, h.0))

first_at : (x : ℕ × List ℕ) (runs : List (ℕ × List ℕ)) (i : ℕ) → x.0 ≤ i → i < x.0 + length x.1
    → in_runs (x ∷ runs) i ≡ Some (get_or x.1 (i - x.0) 0)
first_at x runs i lo hi = ap (λ y. or_else y (in_runs runs i)) (among_in (length x.1) x.0 x.1 i lo hi)

pub after_first : (x : ℕ × List ℕ) (runs : List (ℕ × List ℕ)) (i : ℕ) → x.0 + length x.1 ≤ i → in_runs (x ∷ runs) i ≡ in_runs runs i
after_first x runs i le = ap (λ y. or_else y (in_runs runs i)) (among_high (length x.1) x.0 x.1 i le)

head_is : (x y : ℕ × List ℕ) (xs ys : List (ℕ × List ℕ)) → x ∷ xs ≡ y ∷ ys → x ≡ y
head_is x y xs ys e = ap (λ l. get_or l 0 x) e

tail_is : (x y : ℕ × List ℕ) (xs ys : List (ℕ × List ℕ)) → x ∷ xs ≡ y ∷ ys → xs ≡ ys
tail_is x y xs ys e = ap (λ l. drop 1 l) e

-- ---- the last run that begins at a place or before
pub record IsLastTo (low at : ℕ) (runs : List (ℕ × List ℕ)) (run : ℕ × List ℕ) : Type 0 where
  pub after : low ≤ run.0
  pub before : run.0 ≤ at
  pub some : 0 < length run.1
  pub last : run.0 + length run.1 ≤ LAST
  pub each : (i : ℕ) → run.0 ≤ i → i < run.0 + length run.1 → in_runs runs i ≡ Some (get_or run.1 (i - run.0) 0)
  pub past : run.0 + length run.1 ≤ at → in_runs runs at ≡ None

none_to_by : (low at : ℕ) (x : ℕ × List ℕ) (runs : List (ℕ × List ℕ)) → AreRuns low (x ∷ runs) → runs_to at (x ∷ runs) ≡ []
    → (at < x.0) ⊎ (x.0 ≤ at) → in_runs (x ∷ runs) at ≡ None
none_to_by low at x runs h e (inl lt) = none_before x.0 (x ∷ runs) at (omega arith, h.1, h.2) lt
none_to_by low at x runs h e (inr le) = let s : runs_to at (x ∷ runs) ≡ x ∷ runs_to at runs = to_in at x runs le in absurd (cc)

pub none_to : (low at : ℕ) (runs : List (ℕ × List ℕ)) → AreRuns low runs → runs_to at runs ≡ [] → in_runs runs at ≡ None
none_to low at [] h e = refl
none_to low at (x ∷ runs) h e = none_to_by low at x runs h e (cases_lt at x.0)

last_here : (low at : ℕ) (x : ℕ × List ℕ) (runs : List (ℕ × List ℕ)) → AreRuns low (x ∷ runs) → x.0 ≤ at → runs_to at runs ≡ []
    → IsLastTo low at (x ∷ runs) x
last_here low at x runs h le e = record {
  after = h.0;
  before = le;
  some = h.1;
  last = last_of (x.0 + length x.1) runs h.2;
  each = first_at x runs;
  past = λ p. after_first x runs at p ∙ none_to (x.0 + length x.1) at runs h.2 e;
}

last_later : (low at : ℕ) (x : ℕ × List ℕ) (runs : List (ℕ × List ℕ)) (run : ℕ × List ℕ) → AreRuns low (x ∷ runs)
    → IsLastTo (x.0 + length x.1) at runs run → IsLastTo low at (x ∷ runs) run
last_later low at x runs run h f = record {
  after = omega (arith, h.0, f.after);
  before = f.before;
  some = f.some;
  last = f.last;
  each = λ i lo hi. after_first x runs i (omega (arith, f.after)) ∙ f.each i lo hi;
  past = λ p. after_first x runs at (omega (arith, f.after)) ∙ f.past p;
}

last_to_by : (low at : ℕ) (x : ℕ × List ℕ) (runs : List (ℕ × List ℕ)) → AreRuns low (x ∷ runs)
    → ((t : List (ℕ × List ℕ)) (run : ℕ × List ℕ) → runs_to at runs ≡ t ++ run ∷ [] → IsLastTo (x.0 + length x.1) at runs run)
    → (t : List (ℕ × List ℕ)) (run : ℕ × List ℕ) → runs_to at (x ∷ runs) ≡ t ++ run ∷ [] → (at < x.0) ⊎ (x.0 ≤ at)
    → IsLastTo low at (x ∷ runs) run
last_to_by low at x runs h rec t run e (inl lt) = let f : IsLastTo (x.0 + length x.1) at runs run = rec t run (sym (to_out at x runs lt)
    ∙ e) in absurd (omega (arith, f.after, f.before))
last_to_by low at x runs h rec [] run e (inr le) =
    let s : x ∷ runs_to at runs ≡ run ∷ [] = sym (to_in at x runs le) ∙ e in
    subst (λ (r : ℕ × List ℕ). IsLastTo low at (x ∷ runs) r) (head_is x run (runs_to at runs) [] s)
    (last_here low at x runs h le (tail_is x run (runs_to at runs) [] s))
last_to_by low at x runs h rec (y ∷ t) run e (inr le) =
    let s : x ∷ runs_to at runs ≡ y ∷ (t ++ run ∷ []) = sym (to_in at x runs le) ∙ e in
    last_later low at x runs run h (rec t run (tail_is x y (runs_to at runs) (t ++ run ∷ []) s))

pub last_to : (low at : ℕ) (runs : List (ℕ × List ℕ)) → AreRuns low runs → (t : List (ℕ × List ℕ)) (run : ℕ × List ℕ)
    → runs_to at runs ≡ t ++ run ∷ [] → IsLastTo low at runs run
last_to low at [] h [] run e = absurd (cc)
last_to low at [] h (y ∷ t) run e = absurd (cc)
last_to low at (x ∷ runs) h t run e = last_to_by low at x runs h (last_to (x.0 + length x.1) at runs h.2) t run e (cases_lt at x.0)

-- what stands from a place on in the run that begins there or before
pub known_from : (low at : ℕ) (runs : List (ℕ × List ℕ)) (run : ℕ × List ℕ) (bytes : List ℕ) → IsLastTo low at runs run
    → at < run.0 + length run.1 → bytes ≡ drop (at - run.0) run.1 → AreKnown runs at bytes
known_from low at runs run bytes f lt e =
    let size : length bytes ≡ length run.1 - (at - run.0) = ap length e ∙ length-drop (at - run.0) run.1 in
    record {
      some = omega (arith, size, f.before);
      each = λ j hi.
          let same : at - run.0 + j ≡ at + j - run.0 = omega (arith, f.before) in
          f.each (at + j) (omega (arith, f.before)) (omega (arith, size, f.before))
          ∙ ap (λ z. Some z) (sym (ap (λ l. get_or l j 0) e ∙ (get_or-drop (at - run.0) run.1 j 0 ∙ ap (λ k. get_or run.1 k 0) same)));
      last = omega (arith, size, f.before, f.last);
    }

-- ---- the first run that begins after a place
next_here : (low at : ℕ) (x : ℕ × List ℕ) (runs : List (ℕ × List ℕ)) → AreRuns low (x ∷ runs) → at < x.0 → IsNextAfter (x ∷ runs) at x.0
next_here low at x runs h lt = record {
  after = lt;
  there = let P : Option ℕ → Type 0 = λ z. IsSome z in subst P (sym (first_at x runs x.0 (omega arith) (omega (arith, h.1)))) refl;
  none = λ _ i _ hi. none_before x.0 (x ∷ runs) i (omega arith, h.1, h.2) hi;
  last = omega (arith, last_of (x.0 + length x.1) runs h.2);
}

next_later : (at next : ℕ) (x : ℕ × List ℕ) (runs : List (ℕ × List ℕ)) → x.0 ≤ at → IsNextAfter runs at next
    → IsNextAfter (x ∷ runs) at next
next_later at next x runs le f = record {
  after = f.after;
  there = some_right (among (length x.1) x.0 x.1 next) (in_runs runs next) f.there;
  none = λ e i lo hi.
      let past : x.0 + length x.1 ≤ at = outside (length x.1) x.0 x.1 at (none_left _ _ e) le in
      after_first x runs i (omega arith) ∙ f.none (none_right _ _ e) i lo hi;
  last = f.last;
}

next_by : (low at : ℕ) (x : ℕ × List ℕ) (runs : List (ℕ × List ℕ)) → AreRuns low (x ∷ runs)
    → ((run : ℕ × List ℕ) (rest : List (ℕ × List ℕ)) → runs_from (at + 1) runs ≡ run ∷ rest → IsNextAfter runs at run.0)
    → (run : ℕ × List ℕ) (rest : List (ℕ × List ℕ)) → runs_from (at + 1) (x ∷ runs) ≡ run ∷ rest → (at < x.0) ⊎ (x.0 ≤ at)
    → IsNextAfter (x ∷ runs) at run.0
next_by low at x runs h rec run rest e (inl lt) =
    let s : x ∷ runs_from (at + 1) runs ≡ run ∷ rest = sym (from_in (at + 1) x runs (omega arith)) ∙ e in
    subst (λ (r : ℕ × List ℕ). IsNextAfter (x ∷ runs) at r.0) (head_is x run _ _ s) (next_here low at x runs h lt)
next_by low at x runs h rec run rest e (inr le) = next_later at run.0 x runs le
    (rec run rest (sym (from_out (at + 1) x runs (omega arith)) ∙ e))

pub next_found : (low at : ℕ) (runs : List (ℕ × List ℕ)) → AreRuns low runs → (run : ℕ × List ℕ) (rest : List (ℕ × List ℕ))
    → runs_from (at + 1) runs ≡ run ∷ rest → IsNextAfter runs at run.0
next_found low at [] h run rest e = absurd (cc)
next_found low at (x ∷ runs) h run rest e = next_by low at x runs h (next_found (x.0 + length x.1) at runs h.2) run rest e (cases_lt at x.0)

no_next_by : (at : ℕ) (x : ℕ × List ℕ) (runs : List (ℕ × List ℕ))
    → (runs_from (at + 1) runs ≡ [] → in_runs runs at ≡ None → (i : ℕ) → at ≤ i → in_runs runs i ≡ None)
    → runs_from (at + 1) (x ∷ runs) ≡ [] → in_runs (x ∷ runs) at ≡ None → (at < x.0) ⊎ (x.0 ≤ at) → (i : ℕ) → at ≤ i
    → in_runs (x ∷ runs) i ≡ None
no_next_by at x runs rec e none (inl lt) i lo = let s : runs_from (at + 1) (x ∷ runs) ≡ x ∷ runs_from (at + 1) runs = from_in
    (at + 1) x runs (omega arith) in absurd (cc)
no_next_by at x runs rec e none (inr le) i lo =
    let past : x.0 + length x.1 ≤ at = outside (length x.1) x.0 x.1 at (none_left _ _ none) le in
    after_first x runs i (omega arith) ∙ rec (sym (from_out (at + 1) x runs (omega arith)) ∙ e) (none_right _ _ none) i lo

pub no_next : (at : ℕ) (runs : List (ℕ × List ℕ)) → runs_from (at + 1) runs ≡ [] → in_runs runs at ≡ None → (i : ℕ) → at ≤ i
    → in_runs runs i ≡ None
no_next at [] e none i lo = refl
no_next at (x ∷ runs) e none i lo = no_next_by at x runs (no_next at runs) e none (cases_lt at x.0) i lo

-- ---- a run that is put where there is none
pub record IsPut (low : ℕ) (runs : List (ℕ × List ℕ)) (at : ℕ) (bytes : List ℕ) (new : List (ℕ × List ℕ)) : Type 0 where
  pub runs_are : AreRuns low new
  pub puts : Puts runs at bytes (length bytes) new
  pub charge : charge_of new ≡ charge_of runs + length bytes + RUN_COST

ends_by : (x : ℕ × List ℕ) (runs : List (ℕ × List ℕ)) (at : ℕ) (bytes : List ℕ) → 0 < length x.1 → at < x.0
    → ((i : ℕ) → at ≤ i → i < at + length bytes → in_runs (x ∷ runs) i ≡ None)
    → (x.0 < at + length bytes) ⊎ (at + length bytes ≤ x.0) → at + length bytes ≤ x.0
ends_by x runs at bytes some lt free (inr le) = le
ends_by x runs at bytes some lt free (inl hi) =
    let s : in_runs (x ∷ runs) x.0 ≡ Some (get_or x.1 (x.0 - x.0) 0) = first_at x runs x.0 (omega arith) (omega arith) in
    let n : in_runs (x ∷ runs) x.0 ≡ None = free x.0 (omega arith) hi in
    absurd (cc)

put_swaps : (runs : List (ℕ × List ℕ)) (at : ℕ) (bytes : List ℕ) (i : ℕ)
    → ((i : ℕ) → at ≤ i → i < at + length bytes → in_runs runs i ≡ None)
    → (among (length bytes) at bytes i ≡ None) ⊎ ((at ≤ i) × (i < at + length bytes))
    → or_else (among (length bytes) at bytes i) (in_runs runs i) ≡ or_else (in_runs runs i) (among (length bytes) at bytes i)
put_swaps runs at bytes i free (inl e) = or_else_swaps _ _ (inl e)
put_swaps runs at bytes i free (inr h) = or_else_swaps _ _ (inr (free i h.0 h.1))

put_first : (low : ℕ) (x : ℕ × List ℕ) (runs : List (ℕ × List ℕ)) (at : ℕ) (bytes : List ℕ) → AreRuns low (x ∷ runs) → low ≤ at
    → 0 < length bytes
    → ((i : ℕ) → at ≤ i → i < at + length bytes → in_runs (x ∷ runs) i ≡ None) → at < x.0
    → IsPut low (x ∷ runs) at bytes ((at, bytes) ∷ x ∷ runs)
put_first low x runs at bytes h lo some free lt = record {
  runs_are = (lo, some, (ends_by x runs at bytes h.1 lt free (cases_lt x.0 (at + length bytes)), h.1, h.2));
  puts = λ i. put_swaps (x ∷ runs) at bytes i free (among_either (length bytes) at bytes i);
  charge = omega arith;
}

put_later : (low : ℕ) (x : ℕ × List ℕ) (runs : List (ℕ × List ℕ)) (at : ℕ) (bytes : List ℕ) (new : List (ℕ × List ℕ))
    → AreRuns low (x ∷ runs)
    → IsPut (x.0 + length x.1) runs at bytes new → IsPut low (x ∷ runs) at bytes (x ∷ new)
put_later low x runs at bytes new h f = record {
  runs_are = (h.0, h.1, f.runs_are);
  puts = λ i. ap (λ z. or_else (among (length x.1) x.0 x.1 i) z) (f.puts i)
      ∙ sym (or_else_assoc (among (length x.1) x.0 x.1 i) (in_runs runs i) (among (length bytes) at bytes i));
  charge = omega (arith, f.charge);
}

put_by : (low : ℕ) (x : ℕ × List ℕ) (runs : List (ℕ × List ℕ)) (at : ℕ) (bytes : List ℕ) → AreRuns low (x ∷ runs) → low ≤ at
    → 0 < length bytes
    → ((i : ℕ) → at ≤ i → i < at + length bytes → in_runs (x ∷ runs) i ≡ None)
    → (x.0 + length x.1 ≤ at → IsPut (x.0 + length x.1) runs at bytes (insert_entry nat_cmp runs at bytes))
    → (at < x.0) ⊎ (x.0 ≤ at) → IsPut low (x ∷ runs) at bytes (insert_entry nat_cmp (x ∷ runs) at bytes)
put_by low x runs at bytes h lo some free rec (inl lt) =
    let E : insert_entry nat_cmp (x ∷ runs) at bytes ≡ (at, bytes) ∷ x ∷ runs = ap
    (λ o. match_ordering o ((at, bytes) ∷ x ∷ runs) ((x.0, bytes) ∷ runs) (x ∷ insert_entry nat_cmp runs at bytes)) (less at x.0 lt) in
    subst (λ (l : List (ℕ × List ℕ)). IsPut low (x ∷ runs) at bytes l) (sym E) (put_first low x runs at bytes h lo some free lt)
put_by low x runs at bytes h lo some free rec (inr le) =
    let past : x.0 + length x.1 ≤ at = outside (length x.1) x.0 x.1 at (none_left _ _ (free at (omega arith) (omega arith))) le in
    let E : insert_entry nat_cmp (x ∷ runs) at bytes ≡ x ∷ insert_entry nat_cmp runs at bytes = ap
    (λ o. match_ordering o ((at, bytes) ∷ x ∷ runs) ((x.0, bytes) ∷ runs) (x ∷ insert_entry nat_cmp runs at bytes))
    (greater at x.0 (omega (arith, h.1))) in
    subst (λ (l : List (ℕ × List ℕ)). IsPut low (x ∷ runs) at bytes l) (sym E)
    (put_later low x runs at bytes (insert_entry nat_cmp runs at bytes) h (rec past))

pub put_there : (low : ℕ) (runs : List (ℕ × List ℕ)) (at : ℕ) (bytes : List ℕ) → AreRuns low runs → low ≤ at → 0 < length bytes
    → at + length bytes ≤ LAST
    → ((i : ℕ) → at ≤ i → i < at + length bytes → in_runs runs i ≡ None) → IsPut low runs at bytes (insert_entry nat_cmp runs at bytes)
put_there low [] at bytes h lo some last free = record {
  runs_are = (lo, some, last);
  puts = λ i. or_else_none (among (length bytes) at bytes i);
  charge = omega arith;
}
put_there low (x ∷ runs) at bytes h lo some last free =
    put_by low x runs at bytes h lo some free
    (λ past. put_there (x.0 + length x.1) runs at bytes h.2 past some last (λ i a b. none_right _ _ (free i a b))) (cases_lt at x.0)

-- ---- the first run
pub first_fits : (runs : List (ℕ × List ℕ)) (run : ℕ × List ℕ) → AreRuns 0 runs → slice_get runs 0 ≡ Some run → run.0 + length run.1 ≤ LAST
first_fits [] run h e = absurd (cc)
first_fits (x ∷ runs) run h e =
    let s : x ≡ run = same_Some x run e in
    subst (λ (r : ℕ × List ℕ). r.0 + length r.1 ≤ LAST) s (last_of (x.0 + length x.1) runs h.2)

pub rest_are_runs : (runs rest : List (ℕ × List ℕ)) (run : ℕ × List ℕ) → AreRuns 0 runs → runs ≡ run ∷ rest → AreRuns 0 rest
rest_are_runs runs rest run h e =
    let s : AreRuns 0 (run ∷ rest) = subst (λ (l : List (ℕ × List ℕ)). AreRuns 0 l) e h in
    runs_weaker (run.0 + length run.1) 0 rest s.2 (omega arith)

pub rest_charge : (runs rest : List (ℕ × List ℕ)) (run : ℕ × List ℕ) → runs ≡ run ∷ rest
    → charge_of runs ≡ length run.1 + RUN_COST + charge_of rest
rest_charge runs rest run e = ap charge_of e

pub put_is : (runs new : List (ℕ × List ℕ)) (at : ℕ) (bytes value : List ℕ) → AreRuns 0 runs → 0 < length bytes → at + length bytes ≤ LAST
    → ((i : ℕ) → at ≤ i → i < at + length bytes → in_runs runs i ≡ None) → value ≡ bytes → new ≡ insert_entry nat_cmp runs at value
    → IsPut 0 runs at bytes new
put_is runs new at bytes value h some last free same e =
    subst (λ (l : List (ℕ × List ℕ)). IsPut 0 runs at bytes l) (sym (e
    ∙ ap (λ (v : List ℕ). insert_entry nat_cmp runs at v) same)) (put_there 0 runs at bytes h (omega arith) some last free)

pub past_there : (low at : ℕ) (runs : List (ℕ × List ℕ)) (run : ℕ × List ℕ) (bytes : List ℕ) → IsLastTo low at runs run → bytes ≡ run.1
    → length bytes ≤ at - run.0 → in_runs runs at ≡ None
past_there low at runs run bytes f e le = f.past (omega (arith, ap length e, f.before))

pub known_there : (low at : ℕ) (runs : List (ℕ × List ℕ)) (run : ℕ × List ℕ) (bytes : List ℕ) → IsLastTo low at runs run → bytes ≡ run.1
    → at - run.0 < length bytes → AreKnown runs at (take (length bytes - (at - run.0)) (drop (at - run.0) bytes))
known_there low at runs run bytes f e lt =
    known_from low at runs run _ f (omega (arith, ap length e, f.before)) (take_rest bytes (at - run.0)
    ∙ ap (λ (l : List ℕ). drop (at - run.0) l) e)
