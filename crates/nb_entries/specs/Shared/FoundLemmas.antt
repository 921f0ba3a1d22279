-- What a reading of a saved entry finds stands there.
use Rattle.std.proofs.Common.{◌≡◌, ◌+◌, ◌<◌, ◌≤◌, ◌^◌, ℕ, suc, zero, List, [], ◌∷◌, ◌++◌, length, map, take, drop, Option, Some, Ok, refl, sym, ap, subst, ◌∙◌, arith, length-append}
use Rattle.std.proofs.Math.Seq.{take-add}
use Rattle.std.proofs.lemmas.List.{drop-drop}
use Rattle.std.proofs.lemmas.Option.{none-some, same_Some}
use Rattle.std.specs.Int.{w16, to_be_bytes}
use Rattle.std.specs.List.{concat, AllByRecursion}
use Rattle.nb_names.specs.declared.reading.Pointers.TheVariants.{Refused}
use Rattle.nb_names.specs.DomainName.{spelling}
use Rattle.nb_streams.specs.Places.{StandsAt}
use Rattle.nb_names.specs.Labels.{LabelsAt, ends, goes_on as label_then, leads_to}
use Rattle.nb_names.specs.Name.{NetbiosName, IsName, labels_of_name}
use Rattle.nb_datagram.specs.declared.key.Kind.{Kind}
use Rattle.nb_datagram.specs.Packet.{type_of, name_bytes}
use Rattle.nb_entries.specs.declared.saved.SavedForm.{SavedForm}
use Rattle.nb_entries.specs.declared.saved.SavedForm.TheVariants.{First, Second}
use Rattle.nb_entries.specs.Marks.{Marks, MarksBelow, end_bytes, promise_bytes, marks_bytes}
use Rattle.nb_entries.specs.Entry.{EntryFacts, EntryValue}
use Rattle.nb_entries.specs.Runs.{RunValue, run_end, StartsPast, AreApart, map_of_runs, runs_of_map}
use Rattle.nb_entries.specs.Saved.{run_bytes, runs_bytes, facts_bytes, entry_bytes}
use Rattle.nb_entries.specs.SavedReading.{gives, goes_on, whole, good, is_0, is_1, byte_at, number_at, bytes_at, known, kind_at, name_at, stands, end_at, promise_at, PromisesBelow, marks_at, run_at, row_at, runs_at, most_of, facts_at, entry_at}
use Rattle.nb_entries.specs.Shared.RunsLemmas.{runs_back}

-- ---- bytes in a row

-- these bytes stand at `at`, and `next` is after them
pub record Spells (input : List ℕ) (at : ℕ) (bytes : List ℕ) (next : ℕ) : Type 0 where
  pub there : StandsAt input at bytes
  pub behind : next ≡ at + length bytes

-- bytes after bytes
pub spells_then : (input : List ℕ) (at mid next : ℕ) (xs ys : List ℕ) → Spells input at xs mid → Spells input mid ys next → Spells input at (xs ++ ys) next
spells_then input at mid next xs ys a b =
    let moved : StandsAt input (at + length xs) ys = subst (λ (n : ℕ). StandsAt input n ys) a.behind b.there in
    record {
      there = ap (λ (n : ℕ). take n (drop at input)) (length-append xs ys)
          ∙ take-add (length xs) (length ys) (drop at input)
          ∙ ap (λ (r : List ℕ). take (length xs) (drop at input) ++ take (length ys) r) (drop-drop (length xs) at input)
          ∙ ap (λ (r : List ℕ). r ++ take (length ys) (drop (at + length xs) input)) a.there
          ∙ ap (λ (r : List ℕ). xs ++ r) moved;
      behind = omega (arith, a.behind, b.behind, length-append xs ys);
    }

pub spells_none : (input : List ℕ) (at : ℕ) → Spells input at [] at
spells_none input at = record { there = refl; behind = omega arith }

-- ---- fields

byte_found : (input : List ℕ) (at x next : ℕ) → byte_at input at (Ok (x, next)) → Spells input at (x ∷ []) next
byte_found input at x next (whole y h i) = record { there = i; behind = refl }

number_found : (input : List ℕ) (at n next : ℕ) → number_at input at (Ok (n, next)) → Spells input at (to_be_bytes w16 n) next × n < 2 ^ 16
number_found input at n next (whole m h i) = (record { there = i.bytes; behind = refl }, i.fits)

pub bytes_found : (input : List ℕ) (at size next : ℕ) (bytes : List ℕ) → bytes_at input at size (Ok (bytes, next)) → Spells input at bytes next × (length bytes ≡ size)
bytes_found input at size next bytes (whole m h i) = (record { there = i.1; behind = ap (λ (n : ℕ). at + n) (sym i.0) }, i.0)

kind_found : (input : List ℕ) (at next : ℕ) (k : Kind) → kind_at input at (Ok (k, next)) → Spells input at (type_of k ∷ []) next
kind_found input at next k (goes_on x n h (known l e)) = subst (λ (t : ℕ). Spells input at (t ∷ []) n) e (byte_found input at x n h)

-- where pointers are refused a name's labels are spelled where it stands
spelled : (packet : List ℕ) (start at : ℕ) (labels : List (List ℕ)) (next : ℕ) → LabelsAt packet Refused start at labels next → Spells packet at (spelling labels) next
spelled packet start at [] next (ends h) = record { there = h; behind = refl }
spelled packet start at labels next (label_then label more is there short rest) =
    let place : at + 1 + length label ≡ at + length (length label ∷ label) = omega arith in
    spells_then packet at (at + 1 + length label) next (length label ∷ label) (spelling more) (record { there = there; behind = place })
    (spelled packet start (at + 1 + length label) more next rest)
spelled packet start at labels next (leads_to target behind followed pointer low rest) = absurd (cc)

name_found : (input : List ℕ) (at next : ℕ) (name : NetbiosName) → name_at input at (Ok (name, next)) → Spells input at (name_bytes name) next × IsName name
name_found input at next name (stands n a i h) = (spelled input at at (labels_of_name name) next h, i)

end_found : (input : List ℕ) (at next : ℕ) (end : Option ℕ) → end_at input at (Ok (end, next)) → Spells input at (end_bytes end) next
end_found input at next end (goes_on mark n h (is_0 e gives)) = subst (λ (t : ℕ). Spells input at (t ∷ []) n) e (byte_found input at mark n h)
end_found input at next end (goes_on mark n h (is_1 e (goes_on m l k gives))) =
    spells_then input at n next (1 ∷ []) (to_be_bytes w16 m) (subst (λ (t : ℕ). Spells input at (t ∷ []) n) e (byte_found input at mark n h)) (number_found input n m l k).0

promise_found : (form : SavedForm) (input : List ℕ) (end : Option ℕ) (at next : ℕ) (promise : Option ℕ) → promise_at form input end at (Ok (promise, next)) → Spells input at (promise_bytes form promise) next × ((r : ℕ) → promise ≡ Some r → PromisesBelow end r)
promise_found First input end at next promise gives = (spells_none input at, λ r e. absurd (none-some r e))
promise_found Second input end at next promise (goes_on mark n h (is_0 e gives)) = (
  subst (λ (t : ℕ). Spells input at (t ∷ []) n) e (byte_found input at mark n h),
  λ r e. absurd (none-some r e),
)
promise_found Second input end at next promise (goes_on mark n h (is_1 e (goes_on m l (goes_on q p k (good g)) gives))) = (
  spells_then input at n next (1 ∷ []) (to_be_bytes w16 m) (subst (λ (t : ℕ). Spells input at (t ∷ []) n) e (byte_found input at mark n h)) (number_found input n m l k).0,
  λ r e. subst (PromisesBelow end) (same_Some m r e) g,
)

-- what was marked lies below the end
abbrev pub AreMarks : Marks → Type 0
AreMarks m = (n : ℕ) → m.end ≡ Some n → MarksBelow n m

pub marks_found : (form : SavedForm) (input : List ℕ) (at next : ℕ) (m : Marks) → marks_at form input at (Ok (m, next)) → Spells input at (marks_bytes form m) next × AreMarks m
marks_found form input at next m (goes_on end n h (goes_on promise p k gives)) =
    let found = promise_found form input end n p promise k in
    (spells_then input at n p (end_bytes end) (promise_bytes form promise) (end_found input at n end h) found.0, λ k e r f. found.1 r f k e)

-- ---- runs

run_found : (input : List ℕ) (most least at next : ℕ) (r : RunValue) → run_at input most least at (Ok (r, next)) →
    Spells input at (run_bytes r) next × (least ≤ r.start) × (0 < length r.bytes) × (run_end r ≤ most)
run_found input most least at next r (goes_on s b (goes_on t m h (good low)) (goes_on n c (goes_on o l k (good short)) (goes_on bs d f gives))) =
    let start = number_found input at s b h in
    let size = number_found input b n c k in
    let bytes = bytes_found input c n d bs f in
    let sized : Spells input b (to_be_bytes w16 (length bs)) c = subst (λ (i : ℕ). Spells input b (to_be_bytes w16 i) c) (sym bytes.1) size.0 in (
      spells_then input at b d (to_be_bytes w16 s) (to_be_bytes w16 (length bs) ++ bs) start.0 (spells_then input b c d (to_be_bytes w16 (length bs)) bs sized bytes.0),
      low,
      omega (arith, bytes.1, short.0),
      omega (arith, bytes.1, short.1),
    )

-- the first of the runs, if there is one, starts there or later
abbrev pub StartsFrom : ℕ → List RunValue → Type 0
StartsFrom least [] = Unit {0}
StartsFrom least (r ∷ rs) = least ≤ r.start

from_past : (n : ℕ) (rs : List RunValue) → StartsFrom (n + 1) rs → StartsPast n rs
from_past n [] h = tt
from_past n (r ∷ rs) h = omega (arith, h)

-- what a row of runs is
pub record IsRow (most least count : ℕ) (rs : List RunValue) : Type 0 where
  pub apart : AreApart rs
  pub from : StartsFrom least rs
  pub short : AllByRecursion (λ (r : RunValue). run_end r ≤ most) rs
  pub counted : length rs ≡ count

pub row_found : (input : List ℕ) (most count least at next : ℕ) (rs : List RunValue) → row_at input most count least at (Ok (rs, next)) →
    Spells input at (concat (map run_bytes rs)) next × IsRow most least count rs
row_found input most zero least at next rs gives = (spells_none input at, record { apart = tt; from = tt; short = tt; counted = refl })
row_found input most (suc count) least at next rs (goes_on r m h (goes_on ss l k gives)) =
    let first = run_found input most least at m r h in
    let rest = row_found input most count (run_end r + 1) m l ss k in (
      spells_then input at m l (run_bytes r) (concat (map run_bytes ss)) first.0 rest.0,
      record {
        apart = (first.2, (from_past (run_end r) ss rest.1.from, rest.1.apart));
        from = first.1;
        short = (first.3, rest.1.short);
        counted = ap suc rest.1.counted;
      },
    )

pub runs_found : (input : List ℕ) (most at next : ℕ) (rs : List RunValue) → runs_at input most at (Ok (rs, next)) →
    Spells input at (runs_bytes rs) next × AreApart rs × AllByRecursion (λ (r : RunValue). run_end r ≤ most) rs
runs_found input most at next rs (goes_on n m h r) =
    let count = number_found input at n m h in
    let row = row_found input most n 0 m next rs r in (
      spells_then input at m next (to_be_bytes w16 (length rs)) (concat (map run_bytes rs)) (subst (λ (i : ℕ). Spells input at (to_be_bytes w16 i) m) (sym row.1.counted) count.0) row.0,
      row.1.apart,
      row.1.short,
    )

-- ---- entries

facts_found : (form : SavedForm) (input : List ℕ) (at next : ℕ) (e : EntryFacts) → facts_at form input at (Ok (e, next)) → Spells input at (facts_bytes form e) next
facts_found form input at next e (goes_on kind a k (goes_on source b s (goes_on destination c d (goes_on marks p q (goes_on runs l r gives))))) =
    let row = runs_found input (most_of marks.end) p l runs r in
    let same : runs_bytes runs ≡ runs_bytes (runs_of_map (map_of_runs runs)) = ap runs_bytes (sym (runs_back runs row.1)) in
    spells_then input at a l (type_of kind ∷ []) _ (kind_found input at a kind k)
    (spells_then input a b l (name_bytes source) _ (name_found input a b source s).0
    (spells_then input b c l (name_bytes destination) _ (name_found input b c destination d).0
    (spells_then input c p l (marks_bytes form marks) _ (marks_found form input c p marks q).0
    (subst (λ (bytes : List ℕ). Spells input p bytes l) same row.0))))

pub entry_found : (form : SavedForm) (input : List ℕ) (at next : ℕ) (e : EntryValue) → entry_at form input at (Ok (e, next)) → Spells input at (entry_bytes form e) next
entry_found form input at next e (goes_on state n h (is_0 z gives)) = subst (λ (t : ℕ). Spells input at (t ∷ []) n) z (byte_found input at state n h)
entry_found form input at next e (goes_on state n h (is_1 z (goes_on f m k gives))) =
    spells_then input at n m (1 ∷ []) (facts_bytes form f) (subst (λ (t : ℕ). Spells input at (t ∷ []) n) z (byte_found input at state n h)) (facts_found form input n m f k)
