-- A row of saved runs that was read: its runs by their bytes, its map, and how far it reaches.
use Rattle.std.proofs.Common.{◌≡◌, ◌+◌, ◌<◌, ◌≤◌, ◌&&◌, ℕ, suc, zero, List, [], ◌∷◌, length, take, drop, Bool, true, false, Ok, refl, sym, ap, subst, ◌∙◌, arith, length-drop, None}
use Rattle.std.proofs.lemmas.Bool.{le-leb, lt-leb, and_from}
use Rattle.std.specs.Prelude.{nat_le, nat_lt}
use Rattle.std.specs.Int.{w16, from_be_bytes}
use Rattle.std.specs.List.{list_all, AllByRecursion}
use Rattle.std.specs.Cmp.{nat_cmp_total}
use Rattle.std.specs.FinMap as maps
use Rattle.std.specs.FinMap.{nat_cmp-IsAntisymmetric}
use Rattle.std.proofs.lemmas.Bool.Decides.{nat_tests}
use Rattle.std.proofs.lemmas.List.{drop-drop}
use Rattle.std.proofs.lemmas.List.Folds.{list_all-append}
use Rattle.std.proofs.lemmas.Nat.{from_be_bytes-to_be_bytes_2}
use Rattle.nb_streams.specs.Places.{StandsAt, NumberAt}
use Rattle.nb_entries.specs.Marks.{Marks}
use Rattle.nb_entries.specs.Cover.{placed, AreCoverFacts}
use Rattle.nb_entries.specs.Runs.{RunValue, run_end, AreApart, places_of, map_of_runs}
use Rattle.nb_entries.specs.SavedReading.{gives, goes_on, whole, good, number_at, bytes_at, run_at, row_at, is_0, is_1, most_of, facts_at, entry_at}
use Rattle.nb_entries.specs.Code.Rows.{number_in, run_of, after_run, RunThere, row_of, RowThere}
use Rattle.nb_entries.specs.Shared.MapsLemmas.{sorted_entries}
use Rattle.nb_entries.specs.Shared.FoundLemmas.{row_found, AreMarks, marks_found, runs_found}
use Rattle.nb_entries.specs.Shared.RunsLemmas.{sorted_places}
use Rattle.nb_entries.specs.declared.saved.SavedForm.{SavedForm}
use Rattle.nb_entries.specs.declared.saved.SavedForm.TheVariants.{First}
use Rattle.nb_entries.specs.Entry.{EntryFacts, EntryValue, IsEntry}
use Rattle.nb_entries.specs.Maps.{OnHeld}
use Rattle.nb_entries.specs.Shared.CoverLemmas.{bytes_below_decides}

-- ---- runs by their bytes

-- the number that stands at an offset
pub number_is : (bytes : List ℕ) (at n : ℕ) → NumberAt bytes at w16 n → number_in bytes at ≡ n
number_is bytes at n h = ap (λ (xs : List ℕ). from_be_bytes w16 xs) h.bytes ∙ from_be_bytes-to_be_bytes_2 n h.fits

-- what stands behind an offset
behind_is : (input : List ℕ) (at more n : ℕ) → NumberAt input (at + more) w16 n → number_in (drop at input) more ≡ n
behind_is input at more n h =
    ap (λ (xs : List ℕ). from_be_bytes w16 (take 2 xs)) (drop-drop more at input) ∙ number_is input (at + more) n h

-- a run that was read is the one that these bytes begin with
pub record IsFirst (input : List ℕ) (at next : ℕ) (r : RunValue) : Type 0 where
  pub run : run_of (drop at input) ≡ r
  pub there : RunThere (drop at input)
  pub behind : after_run (drop at input) ≡ drop next input

record NumberThere (input : List ℕ) (at n next : ℕ) : Type 0 where
  number : NumberAt input at w16 n
  behind : next ≡ at + 2

number_there : (input : List ℕ) (at n next : ℕ) → number_at input at (Ok (n, next)) → NumberThere input at n next
number_there input at n next (whole m h i) = record { number = i; behind = refl }

record BytesThere (input : List ℕ) (at size : ℕ) (bytes : List ℕ) (next : ℕ) : Type 0 where
  sized : length bytes ≡ size
  stand : StandsAt input at bytes
  inside : at + size ≤ length input
  behind : next ≡ at + size

bytes_there : (input : List ℕ) (at size next : ℕ) (bytes : List ℕ) → bytes_at input at size (Ok (bytes, next)) → BytesThere input at size bytes next
bytes_there input at size next bytes (whole x h i) = record { sized = i.0; stand = i.1; inside = h; behind = refl }

first_is : (input : List ℕ) (most least at next : ℕ) (r : RunValue) → run_at input most least at (Ok (r, next)) → IsFirst input at next r
first_is input most least at next r (goes_on s b (goes_on t m h (good low)) (goes_on n c (goes_on o l k (good short)) (goes_on bs d f gives))) =
    let start = number_there input at s b h in
    let size = number_there input b n c k in
    let bytes = bytes_there input c n d bs f in
    let front : c ≡ at + 4 = omega (arith, start.behind, size.behind) in
    let first : number_in (drop at input) 0 ≡ s = number_is input at s start.number in
    let second : number_in (drop at input) 2 ≡ n = behind_is input at 2 n (subst (λ (j : ℕ). NumberAt input j w16 n) start.behind size.number) in
    let held : take (number_in (drop at input) 2) (drop 4 (drop at input)) ≡ bs =
    ap (λ (j : ℕ). take j (drop 4 (drop at input))) (second ∙ sym bytes.sized)
    ∙ ap (take (length bs)) (drop-drop 4 at input)
    ∙ ap (λ (j : ℕ). take (length bs) (drop j input)) (sym front)
    ∙ bytes.stand in
    let far : at + (4 + number_in (drop at input) 2) ≡ d = omega (arith, second, front, bytes.behind) in
    record {
      run = λ i. record { start = first i; bytes = held i };
      there = omega (arith, second, front, bytes.inside, length-drop at input);
      behind = drop-drop (4 + number_in (drop at input) 2) at input ∙ ap (λ (j : ℕ). drop j input) far;
    }

-- the row that was read is the one that the bytes begin with
pub record IsRowOf (input : List ℕ) (count at : ℕ) (rs : List RunValue) : Type 0 where
  pub runs : row_of count (drop at input) ≡ rs
  pub there : RowThere count (drop at input)

pub row_is : (input : List ℕ) (most count least at next : ℕ) (rs : List RunValue) → row_at input most count least at (Ok (rs, next)) → IsRowOf input count at rs
row_is input most zero least at next rs gives = record { runs = refl; there = tt }
row_is input most (suc count) least at next rs (goes_on r m h (goes_on ss l k gives)) =
    let first = first_is input most least at m r h in
    let rest = row_is input most count (run_end r + 1) m l ss k in
    let runs : row_of count (after_run (drop at input)) ≡ ss = ap (row_of count) first.behind ∙ rest.runs in
    record {
      runs = λ i. first.run i ∷ runs i;
      there = (first.there, subst (RowThere count) (sym first.behind) rest.there);
    }

-- what was read is what the bytes begin with
pub record IsWholeRow (input : List ℕ) (most count at next : ℕ) : Type 0 where
  pub read : row_at input most count 0 at (Ok (row_of count (drop at input), next))
  pub there : RowThere count (drop at input)
  pub apart : AreApart (row_of count (drop at input))

pub whole_row : (input : List ℕ) (most count at next : ℕ) (rs : List RunValue) → row_at input most count 0 at (Ok (rs, next)) → IsWholeRow input most count at next
whole_row input most count at next rs h =
    let seen = row_is input most count 0 at next rs h in
    record {
      read = subst (λ (ss : List RunValue). row_at input most count 0 at (Ok (ss, next))) (sym seen.runs) h;
      there = seen.there;
      apart = subst AreApart (sym seen.runs) (row_found input most count 0 at next rs h).1.apart;
    }

-- ---- how far runs reach

-- bytes from a place on lie below n where the last does
placed_below : (n s x : ℕ) (xs : List ℕ) → list_all (λ (e : ℕ × ℕ). nat_lt e.0 n) (placed s (x ∷ xs)) ≡ nat_le (s + suc (length xs)) n
placed_below n s x [] = one s n
  where
    one : (s n : ℕ) → (nat_lt s n && true) ≡ nat_le (s + 1) n
    one s n = grind (arith, nat_tests)
placed_below n s x (y ∷ ys) =
    ap (λ b. nat_lt s n && b) (placed_below n (s + 1) y ys) ∙ more s n (length ys)
  where
    more : (s n k : ℕ) → (nat_lt s n && nat_le (s + 1 + suc k) n) ≡ nat_le (s + suc (suc k)) n
    more s n k = grind (arith, nat_tests)

pub run_below : (n : ℕ) (r : RunValue) → 0 < length r.bytes → list_all (λ (e : ℕ × ℕ). nat_lt e.0 n) (placed r.start r.bytes) ≡ nat_le (run_end r) n
run_below n r some = step r.start r.bytes some
  where
    step : (s : ℕ) (xs : List ℕ) → 0 < length xs → list_all (λ (e : ℕ × ℕ). nat_lt e.0 n) (placed s xs) ≡ nat_le (s + length xs) n
    step s [] h = absurd (omega arith)
    step s (x ∷ xs) h = placed_below n s x xs

-- runs lie below n where each ends at most there
pub row_below : (n : ℕ) (rs : List RunValue) → AreApart rs → list_all (λ (e : ℕ × ℕ). nat_lt e.0 n) (places_of rs) ≡ list_all (λ (r : RunValue). nat_le (run_end r) n) rs
row_below n [] a = refl
row_below n (r ∷ rs) a =
    list_all-append (λ (e : ℕ × ℕ). nat_lt e.0 n) (placed r.start r.bytes) (places_of rs)
    ∙ ap (λ b. b && list_all (λ (e : ℕ × ℕ). nat_lt e.0 n) (places_of rs)) (run_below n r a.0)
    ∙ ap (λ b. nat_le (run_end r) n && b) (row_below n rs a.1.1)

-- their map has these places
pub places_in_map : (rs : List RunValue) → AreApart rs → maps.entries (map_of_runs rs) ≡ places_of rs
places_in_map rs a = sorted_entries nat_cmp_total nat_cmp-IsAntisymmetric (places_of rs) (sorted_places rs a)

pub map_below : (n : ℕ) (rs : List RunValue) → AreApart rs → list_all (λ (e : ℕ × ℕ). nat_lt e.0 n) (maps.entries (map_of_runs rs)) ≡ list_all (λ (r : RunValue). nat_le (run_end r) n) rs
map_below n rs a = ap (list_all (λ (e : ℕ × ℕ). nat_lt e.0 n)) (places_in_map rs a) ∙ row_below n rs a

pub all_short : (n : ℕ) (rs : List RunValue) → AllByRecursion (λ (r : RunValue). run_end r ≤ n) rs → list_all (λ (r : RunValue). nat_le (run_end r) n) rs ≡ true
all_short n [] h = refl
all_short n (r ∷ rs) h = and_from _ _ (le-leb (run_end r) n h.0) (all_short n rs h.1)

-- ---- rows, one run after the other

row_open : (n k : ℕ) (bs : List ℕ) → n ≡ suc k → RowThere n bs → RunThere bs × RowThere k (after_run bs)
row_open n k bs e h = subst (λ (m : ℕ). RowThere m bs) e h

pub row_next : (n k : ℕ) (bs behind : List ℕ) → n ≡ suc k → behind ≡ after_run bs → RowThere n bs → RowThere k behind
row_next n k bs behind e same h = subst (RowThere k) (sym same) (row_open n k bs e h).1

-- a run reaches past the limit
pub row_long : (limit n k : ℕ) (bs : List ℕ) (r : RunValue) (all : Bool) → n ≡ suc k → r ≡ run_of bs → limit < run_end r → list_all (λ (r : RunValue). nat_le (run_end r) limit) (row_of n bs) ≡ all → false ≡ all
row_long limit n k bs r all e same more h =
    let no : nat_le (run_end (run_of bs)) limit ≡ false = lt-leb (run_end (run_of bs)) limit (subst (λ (q : RunValue). limit < run_end q) same more) in
    sym (ap (λ b. b && list_all (λ (r : RunValue). nat_le (run_end r) limit) (row_of k (after_run bs))) no)
    ∙ ap (λ (m : ℕ). list_all (λ (r : RunValue). nat_le (run_end r) limit) (row_of m bs)) (sym e)
    ∙ h

-- a run doesn't
pub row_short : (limit n k : ℕ) (bs behind : List ℕ) (r : RunValue) (all : Bool) → n ≡ suc k → r ≡ run_of bs → behind ≡ after_run bs → run_end r ≤ limit → list_all (λ (r : RunValue). nat_le (run_end r) limit) (row_of n bs) ≡ all → list_all (λ (r : RunValue). nat_le (run_end r) limit) (row_of k behind) ≡ all
row_short limit n k bs behind r all e same rest few h =
    let yes : nat_le (run_end (run_of bs)) limit ≡ true = le-leb (run_end (run_of bs)) limit (subst (λ (q : RunValue). run_end q ≤ limit) same few) in
    ap (λ (xs : List ℕ). list_all (λ (r : RunValue). nat_le (run_end r) limit) (row_of k xs)) rest
    ∙ sym (ap (λ b. b && list_all (λ (r : RunValue). nat_le (run_end r) limit) (row_of k (after_run bs))) yes)
    ∙ ap (λ (m : ℕ). list_all (λ (r : RunValue). nat_le (run_end r) limit) (row_of m bs)) (sym e)
    ∙ h

-- ---- Saved entries that were read are well formed, and their runs plain.

-- ---- entries are well formed

-- runs that don't pass the end lie below it
pub covers_formed : (runs : List RunValue) (marks : Marks) → AreApart runs → AllByRecursion (λ (r : RunValue). run_end r ≤ most_of marks.end) runs → AreMarks marks →
    AreCoverFacts (record { bytes = map_of_runs runs; marks = marks })
covers_formed runs marks apart short formed n e =
    let below = subst (λ (m : ℕ). AllByRecursion (λ (r : RunValue). run_end r ≤ m) runs) (ap most_of e) short in
    record {
      bytes = (bytes_below_decides n (map_of_runs runs)).0 (map_below n runs apart ∙ all_short n runs below);
      marks = formed n e;
    }

facts_formed : (form : SavedForm) (input : List ℕ) (at next : ℕ) (e : EntryFacts) → facts_at form input at (Ok (e, next)) → AreCoverFacts e.cover
facts_formed form input at next e (goes_on kind a k (goes_on source b s (goes_on destination c d (goes_on marks p q (goes_on runs l r gives))))) =
    let row = runs_found input (most_of marks.end) p l runs r in covers_formed runs marks row.1 row.2 (marks_found form input c p marks q).1

pub entry_formed : (form : SavedForm) (input : List ℕ) (at next : ℕ) (e : EntryValue) → entry_at form input at (Ok (e, next)) → IsEntry e
entry_formed form input at next e (goes_on state n h (is_0 z gives)) = tt
entry_formed form input at next e (goes_on state n h (is_1 z (goes_on f m k gives))) = facts_formed form input n m f k

-- ---- what was saved

-- marks that were read of a form are in it
facts_plain : (input : List ℕ) (at next : ℕ) (e : EntryFacts) → facts_at First input at (Ok (e, next)) → e.cover.marks.promise ≡ None
facts_plain input at next e (goes_on kind a k (goes_on source b s (goes_on destination c d (goes_on marks p (goes_on end n q (goes_on promise m gives gives)) (goes_on runs l r gives))))) = refl

pub entry_plain : (input : List ℕ) (at next : ℕ) (e : EntryValue) → entry_at First input at (Ok (e, next)) → OnHeld (λ a. a.cover.marks.promise ≡ None) e
entry_plain input at next e (goes_on state n h (is_0 z gives)) = tt
entry_plain input at next e (goes_on state n h (is_1 z (goes_on f m k gives))) = facts_plain input n m f k
