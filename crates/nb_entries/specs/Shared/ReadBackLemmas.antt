-- The saved bytes of an entry are read as that entry.
use Rattle.std.proofs.Common.{◌≡◌, ◌+◌, ◌<◌, ◌≤◌, ◌^◌, ℕ, List, [], ◌∷◌, ◌++◌, length, map, true, Option, None, Some, Ok, refl, sym, ap, subst, ◌∙◌, arith, length-append}
use Rattle.std.proofs.lemmas.Bool.{leb-true, and_parts}
use Rattle.std.specs.Prelude.{nat_le, nat_lt}
use Rattle.std.specs.Int.{w16, to_be_bytes}
use Rattle.std.specs.List.{concat, list_all, AllByRecursion}
use Rattle.std.specs.Ordering.{nat_cmp}
use Rattle.std.specs.FinMap as maps
use Rattle.nb_names.specs.declared.reading.Pointers.TheVariants.{Refused}
use Rattle.nb_names.specs.DomainName.{spelling, IsDomain}
use Rattle.nb_names.specs.FirstLevel.{letters}
use Rattle.nb_names.specs.Name.{NetbiosName, IsName, labels_of_name}
use Rattle.nb_streams.specs.PacketFacts.{stands_fits}
use Rattle.nb_names.proofs.FirstLevelLemmas.{length-letters}
use Rattle.nb_names.proofs.LabelsLemmas.{stands_before, stands_behind, spelled_stands}
use Rattle.nb_datagram.specs.declared.key.Kind.{Kind}
use Rattle.nb_datagram.specs.declared.limits.TheConstants.{MAX_LENGTH}
use Rattle.nb_datagram.specs.Packet.{type_of, name_bytes}
use Rattle.nb_entries.specs.declared.saved.SavedForm.{SavedForm}
use Rattle.nb_entries.specs.declared.saved.SavedForm.TheVariants.{First, Second}
use Rattle.nb_entries.specs.Marks.{Marks, end_bytes, promise_bytes, marks_bytes, FitMarks}
use Rattle.nb_entries.specs.Cover.{CoverFacts, AreCoverFacts, BytesBelow}
use Rattle.nb_entries.specs.Entry.{EntryFacts, EntryValue}
use Rattle.nb_entries.specs.Maps.{Spoilt, Held, OnHeld}
use Rattle.nb_entries.specs.Runs.{RunValue, run_end, StartsPast, AreApart, map_of_runs, runs_of_map}
use Rattle.nb_entries.specs.Saved.{run_bytes, runs_bytes, facts_bytes, FitsRun, FitsFacts}
use Rattle.nb_entries.specs.SavedReading.{gives, goes_on, whole, good, is_0, is_1, byte_at, number_at, bytes_at, known, kind_at, name_at, stands, end_at, PromisesBelow, promise_at, marks_at, run_at, row_at, runs_at, most_of, facts_at}
use Rattle.nb_entries.specs.Shared.CoverLemmas.{bytes_below_decides}
use Rattle.nb_entries.specs.Shared.FoundLemmas.{Spells, AreMarks, StartsFrom}
use Rattle.nb_entries.specs.Shared.RowLemmas.{map_below}
use Rattle.nb_entries.specs.Shared.RunsLemmas.{given_back, runs_apart}

-- ---- bytes in a row

-- what stands is a front and the rest after it
pub record Split (input : List ℕ) (at : ℕ) (xs ys : List ℕ) (next : ℕ) : Type 0 where
  pub front : Spells input at xs (at + length xs)
  pub rest : Spells input (at + length xs) ys next

pub split : (input : List ℕ) (at : ℕ) (xs ys : List ℕ) (next : ℕ) → Spells input at (xs ++ ys) next → Split input at xs ys next
split input at xs ys next s = record {
  front = record { there = stands_before input at xs ys s.there; behind = refl };
  rest = record { there = stands_behind input at xs ys s.there; behind = omega (arith, s.behind, length-append xs ys) };
}

-- ---- fields

pub byte_back : (input : List ℕ) (at x next : ℕ) → Spells input at (x ∷ []) next → byte_at input at (Ok (x, next))
byte_back input at x next s =
    subst (λ (n : ℕ). byte_at input at (Ok (x, n))) (sym s.behind) (whole x (stands_fits input at (x ∷ []) s.there (omega arith)) s.there)

number_back : (input : List ℕ) (at n next : ℕ) → n < 2 ^ 16 → Spells input at (to_be_bytes w16 n) next → number_at input at (Ok (n, next))
number_back input at n next few s =
    subst (λ (m : ℕ). number_at input at (Ok (n, m))) (sym s.behind) (whole n (stands_fits input at (to_be_bytes w16 n) s.there (omega arith)) (record { fits = few; bytes = s.there }))

bytes_back : (input : List ℕ) (at next : ℕ) (bytes : List ℕ) → 0 < length bytes → Spells input at bytes next → bytes_at input at (length bytes) (Ok (bytes, next))
bytes_back input at next bytes some s =
    subst (λ (m : ℕ). bytes_at input at (length bytes) (Ok (bytes, m))) (sym s.behind) (whole bytes (stands_fits input at bytes s.there some) (refl, s.there))

kind_back_at : (input : List ℕ) (at next : ℕ) (k : Kind) → Spells input at (type_of k ∷ []) next → kind_at input at (Ok (k, next))
kind_back_at input at next k s = goes_on (type_of k) next (byte_back input at (type_of k) next s) (known k refl)

domain_of : (name : NetbiosName) → IsName name → IsDomain (labels_of_name name)
domain_of name formed =
    let long = length-letters name.bytes in
    let sixteen = formed.sixteen in
    let short = formed.scope.short in
    record {
      each = ((omega arith, omega arith), formed.scope.domain.each);
      short = omega (arith, length-append (letters name.bytes) (spelling name.scope));
    }

name_back : (input : List ℕ) (at next : ℕ) (name : NetbiosName) → IsName name → Spells input at (name_bytes name) next → name_at input at (Ok (name, next))
name_back input at next name is s =
    subst (λ (m : ℕ). name_at input at (Ok (name, m))) (sym s.behind)
    (stands name (at + length (name_bytes name)) is (spelled_stands input Refused at at (labels_of_name name) (domain_of name is) s.there))

end_back : (input : List ℕ) (at next : ℕ) (end : Option ℕ) → ((n : ℕ) → end ≡ Some n → n < 2 ^ 16) → Spells input at (end_bytes end) next → end_at input at (Ok (end, next))
end_back input at next None few s = goes_on 0 next (byte_back input at 0 next s) (is_0 refl gives)
end_back input at next (Some n) few s =
    let parts = split input at (1 ∷ []) (to_be_bytes w16 n) next s in
    goes_on 1 (at + 1) (byte_back input at 1 (at + 1) parts.front) (is_1 refl (goes_on n next (number_back input (at + 1) n next (few n refl) parts.rest) gives))

-- marks fit the form: in the first there is no promise
abbrev pub InForm : SavedForm → Marks → Type 0
InForm First m = m.promise ≡ None
InForm Second m = Unit {0}

marks_back : (form : SavedForm) (input : List ℕ) (at next : ℕ) (m : Marks) → InForm form m → FitMarks m → AreMarks m → Spells input at (marks_bytes form m) next → marks_at form input at (Ok (m, next))
marks_back form input at next m in_form fits formed s =
    let parts = split input at (end_bytes m.end) (promise_bytes form m.promise) next s in
    let behind = at + length (end_bytes m.end) in
    goes_on m.end behind (end_back input at behind m.end fits.end parts.front)
    (goes_on m.promise next (promise_back form behind m.promise in_form fits.promise (λ r f n g. formed n g r f) parts.rest) gives)
  where
    -- a promise, of marks in this form
    promise_back : (form : SavedForm) (at : ℕ) (promise : Option ℕ) → InForm form (record { end = m.end; promise = promise }) → ((r : ℕ) → promise ≡ Some r → r < 2 ^ 16) → ((r : ℕ) → promise ≡ Some r → PromisesBelow m.end r) →
        Spells input at (promise_bytes form promise) next → promise_at form input m.end at (Ok (promise, next))
    promise_back First at promise none few below s =
        let same : at ≡ next = omega (arith, s.behind) in
        subst (λ (p : Option ℕ). promise_at First input m.end at (Ok (p, next))) (sym none) (subst (λ (n : ℕ). promise_at First input m.end at (Ok (None, n))) same gives)
    promise_back Second at None form few below s = goes_on 0 next (byte_back input at 0 next s) (is_0 refl gives)
    promise_back Second at (Some r) form few below s =
        let parts = split input at (1 ∷ []) (to_be_bytes w16 r) next s in
        goes_on 1 (at + 1) (byte_back input at 1 (at + 1) parts.front) (is_1 refl (goes_on r next (goes_on r next (number_back input (at + 1) r next (few r refl) parts.rest) (good (below r refl))) gives))

-- ---- runs

run_back : (input : List ℕ) (most least at next : ℕ) (r : RunValue) → FitsRun r → least ≤ r.start → 0 < length r.bytes → run_end r ≤ most → Spells input at (run_bytes r) next → run_at input most least at (Ok (r, next))
run_back input most least at next r fits low some short s =
    let first = split input at (to_be_bytes w16 r.start) (to_be_bytes w16 (length r.bytes) ++ r.bytes) next s in
    let second = split input (at + 2) (to_be_bytes w16 (length r.bytes)) r.bytes next first.rest in
    goes_on r.start (at + 2) (goes_on r.start (at + 2) (number_back input at r.start (at + 2) fits.start first.front) (good low))
    (goes_on (length r.bytes) (at + 2 + 2) (goes_on (length r.bytes) (at + 2 + 2) (number_back input (at + 2) (length r.bytes) (at + 2 + 2) fits.size second.front) (good (some, short)))
    (goes_on r.bytes next (bytes_back input (at + 2 + 2) next r.bytes some second.rest) gives))

from_past : (n : ℕ) (rs : List RunValue) → StartsPast n rs → StartsFrom (n + 1) rs
from_past n [] h = tt
from_past n (r ∷ rs) h = omega (arith, h)

from_zero : (rs : List RunValue) → StartsFrom 0 rs
from_zero [] = tt
from_zero (r ∷ rs) = omega arith

row_back : (input : List ℕ) (most least at next : ℕ) (rs : List RunValue) → AllByRecursion FitsRun rs → AreApart rs → StartsFrom least rs → AllByRecursion (λ (r : RunValue). run_end r ≤ most) rs →
    Spells input at (concat (map run_bytes rs)) next → row_at input most (length rs) least at (Ok (rs, next))
row_back input most least at next [] fits apart from short s = let same : at ≡ next = omega (arith, s.behind) in subst (λ (n : ℕ). row_at input most 0 least at (Ok ([], n))) same gives
row_back input most least at next (r ∷ rs) fits apart from short s =
    let parts = split input at (run_bytes r) (concat (map run_bytes rs)) next s in
    let mid = at + length (run_bytes r) in
    goes_on r mid (run_back input most least at mid r fits.0 from apart.0 short.0 parts.front)
    (goes_on rs next (row_back input most (run_end r + 1) mid next rs fits.1 apart.1.1 (from_past (run_end r) rs apart.1.0) short.1 parts.rest) gives)

row_bytes_back : (input : List ℕ) (most at next : ℕ) (rs : List RunValue) → length rs < 2 ^ 16 → AllByRecursion FitsRun rs → AreApart rs → AllByRecursion (λ (r : RunValue). run_end r ≤ most) rs →
    Spells input at (runs_bytes rs) next → runs_at input most at (Ok (rs, next))
row_bytes_back input most at next rs few fits apart short s =
    let parts = split input at (to_be_bytes w16 (length rs)) (concat (map run_bytes rs)) next s in
    goes_on (length rs) (at + 2) (number_back input at (length rs) (at + 2) few parts.front) (row_back input most 0 (at + 2) next rs fits apart (from_zero rs) short parts.rest)

-- ---- entries

all_at_most : (n : ℕ) (rs : List RunValue) → list_all (λ (r : RunValue). nat_le (run_end r) n) rs ≡ true → AllByRecursion (λ (r : RunValue). run_end r ≤ n) rs
all_at_most n [] h = tt
all_at_most n (r ∷ rs) h = (leb-true (run_end r) n (and_parts _ _ h).0, all_at_most n rs (and_parts _ _ h).1)

-- what lies below n has runs that end at most there
runs_below : (n : ℕ) (c : CoverFacts) → BytesBelow n c.bytes → AllByRecursion (λ (r : RunValue). run_end r ≤ n) (runs_of_map c.bytes)
runs_below n c below =
    all_at_most n (runs_of_map c.bytes)
    (sym (map_below n (runs_of_map c.bytes) (runs_apart c.bytes))
    ∙ ap (λ (m : maps.FinMap nat_cmp ℕ). list_all (λ (e : ℕ × ℕ). nat_lt e.0 n) (maps.entries m)) (given_back c.bytes)
    ∙ (bytes_below_decides n c.bytes).1 below)

most_below : (c : CoverFacts) (end : Option ℕ) → c.marks.end ≡ end → AreCoverFacts c → BytesBelow MAX_LENGTH c.bytes → AllByRecursion (λ (r : RunValue). run_end r ≤ most_of end) (runs_of_map c.bytes)
most_below c None e formed short = runs_below MAX_LENGTH c short
most_below c (Some n) e formed short = runs_below n c (formed n e).bytes

pub facts_back : (form : SavedForm) (input : List ℕ) (at next : ℕ) (e : EntryFacts) → InForm form e.cover.marks → FitsFacts e → AreCoverFacts e.cover → BytesBelow MAX_LENGTH e.cover.bytes → Spells input at (facts_bytes form e) next → facts_at form input at (Ok (e, next))
facts_back form input at next e in_form fits formed short s =
    let first = split input at (type_of e.kind ∷ []) (name_bytes e.source ++ (name_bytes e.destination ++ (marks_bytes form e.cover.marks ++ runs_bytes (runs_of_map e.cover.bytes)))) next s in
    let a = at + 1 in
    let second = split input a (name_bytes e.source) (name_bytes e.destination ++ (marks_bytes form e.cover.marks ++ runs_bytes (runs_of_map e.cover.bytes))) next first.rest in
    let b = a + length (name_bytes e.source) in
    let third = split input b (name_bytes e.destination) (marks_bytes form e.cover.marks ++ runs_bytes (runs_of_map e.cover.bytes)) next second.rest in
    let c = b + length (name_bytes e.destination) in
    let fourth = split input c (marks_bytes form e.cover.marks) (runs_bytes (runs_of_map e.cover.bytes)) next third.rest in
    let d = c + length (marks_bytes form e.cover.marks) in
    let runs = runs_of_map e.cover.bytes in
    let same : map_of_runs runs ≡ e.cover.bytes = given_back e.cover.bytes in
    subst (λ (m : maps.FinMap nat_cmp ℕ). facts_at form input at (Ok (record { kind = e.kind; source = e.source; destination = e.destination; cover = record { bytes = m; marks = e.cover.marks } }, next))) same
    (goes_on e.kind a (kind_back_at input at a e.kind first.front)
    (goes_on e.source b (name_back input a b e.source fits.named.source second.front)
    (goes_on e.destination c (name_back input b c e.destination fits.named.destination third.front)
    (goes_on e.cover.marks d (marks_back form input c d e.cover.marks in_form fits.cover.marks (λ n g. (formed n g).marks) fourth.front)
    (goes_on runs next (row_bytes_back input (most_of e.cover.marks.end) d next runs fits.cover.count fits.cover.runs (runs_apart e.cover.bytes) (most_below e.cover e.cover.marks.end refl formed short) fourth.rest) gives)))))

pub any_form : (e : EntryValue) → OnHeld (λ a. InForm Second a.cover.marks) e
any_form Spoilt = tt
any_form (Held e) = tt
