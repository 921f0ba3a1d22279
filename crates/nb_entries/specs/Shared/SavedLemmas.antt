-- Each field of a saved entry, with what follows it, tells both.
use Rattle.std.proofs.Common.{◌≡◌, ◌<◌, ◌^◌, ℕ, length, get_or, drop, map, List, [], ◌∷◌, ◌++◌, Option, Some, None, refl, sym, ◌∙◌, ap, ap₂, arith, append_assoc, ◌≤◌, ◌+◌, ◌==◌}
use Rattle.std.proofs.lemmas.Nat.{from_be_bytes-to_be_bytes_2}
use Rattle.std.specs.Prelude.{T, Bool, true, false, cond}
use Rattle.std.specs.Int.{w16, to_be_bytes, from_be_bytes}
use Rattle.std.specs.List.{AllByRecursion, concat}
use Rattle.std.specs.Ordering.{eq_by_cmp, nat_cmp}
use Rattle.std.specs.declared.cmp.Ordering.{Ordering}
use Rattle.std.specs.Cmp.{IsTotalOrder, nat_cmp_total}
use Rattle.std.specs.FinMap as maps
use Rattle.std.specs.FinMap.{is_sorted, nat_cmp-IsAntisymmetric}
use Rattle.nb_names.specs.DomainName.{spelling, IsLabel, IsDomain}
use Rattle.nb_names.specs.Name.{NetbiosName, IsName, labels_of_name}
use Rattle.nb_datagram.specs.Packet.{type_of, kind_of, kind_back, name_bytes}
use Rattle.nb_entries.specs.declared.saved.SavedForm.TheVariants.{Second}
use Rattle.nb_entries.specs.Maps.{Spoilt, Held, OnHeld}
use Rattle.nb_entries.specs.Marks.{Marks, MarksUpTo, end_bytes, marks_bytes, FitMarks}
use Rattle.nb_entries.specs.Cover.{CoverFacts, BytesBelow}
use Rattle.nb_entries.specs.Entry.{EntryFacts, EntryValue, IsShort}
use Rattle.nb_entries.specs.Runs.{RunValue, map_of_runs, runs_of_map, run_end, StartsPast, AreApart, in_front, runs_in}
use Rattle.nb_entries.specs.Saved.{run_bytes, runs_bytes, cover_bytes, facts_bytes, entry_bytes, FitsRun, FitsCover, FitsFacts, IsNamed}
use Rattle.nb_entries.specs.Shared.MapsLemmas.{below_none, T_left, T_right, found_first, found_later}
use Rattle.nb_entries.specs.Shared.MarksLemmas.{marks_fit}
use Rattle.nb_entries.specs.Shared.RunsLemmas.{given_back, runs_apart}
use Rattle.std.proofs.lemmas.Bool.{eqb-true}
use Rattle.nb_datagram.specs.declared.limits.TheConstants.{MAX_LENGTH}
use Rattle.nb_entries.specs.Code.Rows.{EndBy}

-- what the laws of nb_names say of names
pub record NameLaws : Type 0 where
  pub domain : (name : NetbiosName) → IsName name → IsDomain (labels_of_name name)
  pub one : (name other : NetbiosName) → labels_of_name name ≡ labels_of_name other → name ≡ other

-- ---- bytes and numbers

behind : (x y : ℕ) (xs ys : List ℕ) → x ∷ xs ≡ y ∷ ys → (x ≡ y) × (xs ≡ ys)
behind x y xs ys e = (ap (λ (r : List ℕ). get_or r 0 0) e, ap (λ (r : List ℕ). drop 1 r) e)

pub fronts_same : (xs ys more others : List ℕ) → length xs ≡ length ys → xs ++ more ≡ ys ++ others → (xs ≡ ys) × (more ≡ others)
fronts_same [] [] more others size e = (refl, e)
fronts_same [] (y ∷ ys) more others size e = absurd (omega (arith, size))
fronts_same (x ∷ xs) [] more others size e = absurd (omega (arith, size))
fronts_same (x ∷ xs) (y ∷ ys) more others size e =
    let first = behind x y (xs ++ more) (ys ++ others) e in
    let rest = fronts_same xs ys more others (omega (arith, size)) first.1 in
    (ap₂ (λ (z : ℕ) (zs : List ℕ). z ∷ zs) first.0 rest.0, rest.1)

pub numbers_same : (m n : ℕ) (x y : List ℕ) → m < 2 ^ 16 → n < 2 ^ 16 → to_be_bytes w16 m ++ x ≡ to_be_bytes w16 n ++ y → (m ≡ n) × (x ≡ y)
numbers_same m n x y p q e =
    let parts = fronts_same (to_be_bytes w16 m) (to_be_bytes w16 n) x y refl e in
    (sym (from_be_bytes-to_be_bytes_2 m p) ∙ ap (λ (r : List ℕ). from_be_bytes w16 r) parts.0 ∙ from_be_bytes-to_be_bytes_2 n q, parts.1)

-- a row of fields, as many in both
pub each_same : {X : Type 0} (field : X → List ℕ) (P : X → Type 0) → ((a b : X) (x y : List ℕ) → P a → P b → field a ++ x ≡ field b ++ y → (a ≡ b) × (x ≡ y)) →
    (ps qs : List X) (x y : List ℕ) → AllByRecursion P ps → AllByRecursion P qs → length ps ≡ length qs → concat (map field ps) ++ x ≡ concat (map field qs) ++ y → (ps ≡ qs) × (x ≡ y)
each_same field P one [] [] x y h k size e = (refl, e)
each_same field P one [] (q ∷ qs) x y h k size e = absurd (omega (arith, size))
each_same field P one (p ∷ ps) [] x y h k size e = absurd (omega (arith, size))
each_same field P one (p ∷ ps) (q ∷ qs) x y h k size e =
    let first = one p q (concat (map field ps) ++ x) (concat (map field qs) ++ y) h.0 k.0 (sym (append_assoc (field p) (concat (map field ps)) x) ∙ e ∙ append_assoc (field q) (concat (map field qs)) y) in
    let rest = each_same field P one ps qs x y h.1 k.1 (omega (arith, size)) first.1 in
    (ap₂ (λ c cs. c ∷ cs) first.0 rest.0, rest.1)

-- ---- names

labels_same : (ls ms : List (List ℕ)) (x y : List ℕ) → AllByRecursion IsLabel ls → AllByRecursion IsLabel ms → spelling ls ++ x ≡ spelling ms ++ y → (ls ≡ ms) × (x ≡ y)
labels_same [] [] x y p q e = (refl, ap (λ (r : List ℕ). drop 1 r) e)
labels_same [] (m ∷ ms) x y p q e = absurd (omega (arith, ap (λ (r : List ℕ). get_or r 0 0) e, q.0.0))
labels_same (l ∷ ls) [] x y p q e = absurd (omega (arith, ap (λ (r : List ℕ). get_or r 0 0) e, p.0.0))
labels_same (l ∷ ls) (m ∷ ms) x y p q e =
    let first = behind (length l) (length m) ((l ++ spelling ls) ++ x) ((m ++ spelling ms) ++ y) e in
    let label = fronts_same l m (spelling ls ++ x) (spelling ms ++ y) first.0 (sym (append_assoc l (spelling ls) x) ∙ first.1 ∙ append_assoc m (spelling ms) y) in
    let rest = labels_same ls ms x y p.1 q.1 label.1 in
    (ap₂ (λ (k : List ℕ) (ks : List (List ℕ)). k ∷ ks) label.0 rest.0, rest.1)

pub names_same : NameLaws → (m n : NetbiosName) (x y : List ℕ) → IsName m → IsName n → name_bytes m ++ x ≡ name_bytes n ++ y → (m ≡ n) × (x ≡ y)
names_same laws m n x y p q e =
    let labels = labels_same (labels_of_name m) (labels_of_name n) x y (laws.domain m p).each (laws.domain n q).each e in
    (laws.one m n labels.0, labels.1)

-- ---- runs

pub run_same : (r s : RunValue) (x y : List ℕ) → FitsRun r → FitsRun s → run_bytes r ++ x ≡ run_bytes s ++ y → (r ≡ s) × (x ≡ y)
run_same r s x y p q e =
    let start = numbers_same r.start s.start (to_be_bytes w16 (length r.bytes) ++ (r.bytes ++ x)) (to_be_bytes w16 (length s.bytes) ++ (s.bytes ++ y)) p.start q.start e in
    let size = numbers_same (length r.bytes) (length s.bytes) (r.bytes ++ x) (s.bytes ++ y) p.size q.size start.1 in
    let bytes = fronts_same r.bytes s.bytes x y size.0 size.1 in
    (λ i. record { start = start.0 i; bytes = bytes.0 i }, bytes.1)

pub runs_same : (rs ss : List RunValue) (x y : List ℕ) → AllByRecursion FitsRun rs → AllByRecursion FitsRun ss → length rs < 2 ^ 16 → length ss < 2 ^ 16 → runs_bytes rs ++ x ≡ runs_bytes ss ++ y → (rs ≡ ss) × (x ≡ y)
runs_same rs ss x y p q m n e =
    let count = numbers_same (length rs) (length ss) (concat (map run_bytes rs) ++ x) (concat (map run_bytes ss) ++ y) m n e in
    each_same run_bytes FitsRun run_same rs ss x y p q count.0 count.1

-- ---- covers

end_same : (a b : Option ℕ) (x y : List ℕ) → ((n : ℕ) → a ≡ Some n → n < 2 ^ 16) → ((n : ℕ) → b ≡ Some n → n < 2 ^ 16) → end_bytes a ++ x ≡ end_bytes b ++ y → (a ≡ b) × (x ≡ y)
end_same None None x y p q e = (refl, ap (λ (r : List ℕ). drop 1 r) e)
end_same None (Some n) x y p q e = absurd (omega (arith, ap (λ (r : List ℕ). get_or r 0 0) e))
end_same (Some m) None x y p q e = absurd (omega (arith, ap (λ (r : List ℕ). get_or r 0 0) e))
end_same (Some m) (Some n) x y p q e =
    let number = numbers_same m n x y (p m refl) (q n refl) (ap (λ (r : List ℕ). drop 1 r) e) in
    (ap Some number.0, number.1)

marks_same : (c d : Marks) (x y : List ℕ) → FitMarks c → FitMarks d → marks_bytes Second c ++ x ≡ marks_bytes Second d ++ y → (c ≡ d) × (x ≡ y)
marks_same c d x y p q e =
    let end = end_same c.end d.end (end_bytes c.promise ++ x) (end_bytes d.promise ++ y) p.end q.end (sym (append_assoc (end_bytes c.end) (end_bytes c.promise) x) ∙ e ∙ append_assoc (end_bytes d.end) (end_bytes d.promise) y) in
    let promise = end_same c.promise d.promise x y p.promise q.promise end.1 in
    (λ i. record { end = end.0 i; promise = promise.0 i }, promise.1)

pub cover_same : (c d : CoverFacts) (x y : List ℕ) → FitsCover c → FitsCover d → cover_bytes Second c ++ x ≡ cover_bytes Second d ++ y → (c ≡ d) × (x ≡ y)
cover_same c d x y p q e =
    let one : List ℕ = runs_bytes (runs_of_map c.bytes) in
    let two : List ℕ = runs_bytes (runs_of_map d.bytes) in
    let marks = marks_same c.marks d.marks (one ++ x) (two ++ y) p.marks q.marks (sym (append_assoc (marks_bytes Second c.marks) one x) ∙ e ∙ append_assoc (marks_bytes Second d.marks) two y) in
    let runs = runs_same (runs_of_map c.bytes) (runs_of_map d.bytes) x y p.runs q.runs p.count q.count marks.1 in
    let bytes : c.bytes ≡ d.bytes = sym (given_back c.bytes) ∙ ap map_of_runs runs.0 ∙ given_back d.bytes in
    (λ i. record { bytes = bytes i; marks = marks.0 i }, runs.1)

-- ---- entries

pub facts_same : NameLaws → (a b : EntryFacts) (x y : List ℕ) → FitsFacts a → FitsFacts b → facts_bytes Second a ++ x ≡ facts_bytes Second b ++ y → (a ≡ b) × (x ≡ y)
facts_same laws a b x y p q e =
    let covers_a : List ℕ = cover_bytes Second a.cover in
    let covers_b : List ℕ = cover_bytes Second b.cover in
    let to_a : List ℕ = name_bytes a.destination ++ covers_a in
    let to_b : List ℕ = name_bytes b.destination ++ covers_b in
    let type = behind (type_of a.kind) (type_of b.kind) ((name_bytes a.source ++ to_a) ++ x) ((name_bytes b.source ++ to_b) ++ y) e in
    let source = names_same laws a.source b.source (to_a ++ x) (to_b ++ y) p.named.source q.named.source (sym (append_assoc (name_bytes a.source) to_a x) ∙ type.1 ∙ append_assoc (name_bytes b.source) to_b y) in
    let destination = names_same laws a.destination b.destination (covers_a ++ x) (covers_b ++ y) p.named.destination q.named.destination
    (sym (append_assoc (name_bytes a.destination) covers_a x) ∙ source.1 ∙ append_assoc (name_bytes b.destination) covers_b y) in
    let cover = cover_same a.cover b.cover x y p.cover q.cover destination.1 in
    let kind : a.kind ≡ b.kind = sym (kind_back a.kind) ∙ ap kind_of type.0 ∙ kind_back b.kind in
    (λ i. record { kind = kind i; source = source.0 i; destination = destination.0 i; cover = cover.0 i }, cover.1)

pub entry_same : NameLaws → (a b : EntryValue) (x y : List ℕ) → OnHeld FitsFacts a → OnHeld FitsFacts b → entry_bytes Second a ++ x ≡ entry_bytes Second b ++ y → (a ≡ b) × (x ≡ y)
entry_same laws Spoilt Spoilt x y p q e = (refl, ap (λ (r : List ℕ). drop 1 r) e)
entry_same laws Spoilt (Held b) x y p q e = absurd (omega (arith, ap (λ (r : List ℕ). get_or r 0 0) e))
entry_same laws (Held a) Spoilt x y p q e = absurd (omega (arith, ap (λ (r : List ℕ). get_or r 0 0) e))
entry_same laws (Held a) (Held b) x y p q e =
    let facts = facts_same laws a b x y p q (ap (λ (r : List ℕ). drop 1 r) e) in
    (ap Held facts.0, facts.1)

-- ---- tables

-- what holds of each value that a look-up finds holds of each entry
pub each_found : {K X : Type 0} (R : K → K → Ordering) → IsTotalOrder R → maps.IsAntisymmetric R → (P : K → X → Type 0) (es : List (K × X)) → T (is_sorted R es) → ((q : K) (x : X) → maps.find R q es ≡ Some x → P q x) → AllByRecursion (λ e. P e.0 e.1) es
each_found R o exact P [] s h = tt
each_found R o exact P (e ∷ es) s h = (
  h e.0 e.1 (found_first R o e es),
  each_found R o exact P es (T_right _ _ s) (λ q x f. h q x (found_later R exact q e.0 e.1 x es (eq_by_cmp R q e.0) refl (below_none R e.0 es (T_left _ _ s)) f)),
)

-- ---- Entries within the limit fit the fields of a saved entry.

front_ends : (n i x : ℕ) (rs : List RunValue) → i < n → EndBy n rs → EndBy n (in_front i x rs)
front_ends n i x [] below h = (omega (arith, below), tt)
front_ends n i x (r ∷ rs) below h = step (r.start == i + 1) refl
  where
    step : (b : Bool) → (r.start == i + 1) ≡ b → EndBy n (cond b (record { start = i; bytes = x ∷ r.bytes } ∷ rs) (record { start = i; bytes = x ∷ [] } ∷ r ∷ rs))
    step true e = (omega (arith, eqb-true r.start (i + 1) e, h.0), h.1)
    step false e = (omega (arith, below), h)

pub runs_end : (n : ℕ) (es : List (ℕ × ℕ)) → AllByRecursion (λ e. e.0 < n) es → EndBy n (runs_in es)
runs_end n [] h = tt
runs_end n (e ∷ es) h = front_ends n e.0 e.1 (runs_in es) h.0 (runs_end n es h.1)

-- runs that are apart are no more than there are places
few_past : (n k : ℕ) (rs : List RunValue) → AreApart rs → StartsPast k rs → EndBy n rs → k ≤ n → k + length rs ≤ n
few_past n k [] apart past h least = omega (arith, least)
few_past n k (r ∷ rs) apart past h least =
    omega (arith, past, apart.0, few_past n (run_end r) rs apart.1.1 apart.1.0 h.1 h.0)

pub few_runs : (n : ℕ) (rs : List RunValue) → AreApart rs → EndBy n rs → length rs ≤ n
few_runs n [] apart h = omega arith
few_runs n (r ∷ rs) apart h = omega (arith, apart.0, few_past n (run_end r) rs apart.1.1 apart.1.0 h.1 h.0)

-- each place of a short cover lies below the limit
pub places_below : (c : CoverFacts) → BytesBelow MAX_LENGTH c.bytes → AllByRecursion (λ e. e.0 < MAX_LENGTH) (maps.entries c.bytes)
places_below c below =
    each_found nat_cmp nat_cmp_total nat_cmp-IsAntisymmetric (λ i x. i < MAX_LENGTH) (maps.entries c.bytes) (maps.entries_sorted c.bytes)
    (λ i x f. below i x (maps.get-entries c.bytes i ∙ f))

runs_fit : (rs : List RunValue) → EndBy MAX_LENGTH rs → AllByRecursion FitsRun rs
runs_fit [] h = tt
runs_fit (r ∷ rs) h = (record { start = omega (arith, h.0); size = omega (arith, h.0) }, runs_fit rs h.1)

cover_fits : (c : CoverFacts) → BytesBelow MAX_LENGTH c.bytes → MarksUpTo MAX_LENGTH c.marks → FitsCover c
cover_fits c below marks =
    let runs = runs_end MAX_LENGTH (maps.entries c.bytes) (places_below c below) in
    record {
      marks = marks_fit c.marks marks;
      count = omega (arith, few_runs MAX_LENGTH (runs_of_map c.bytes) (runs_apart c.bytes) runs);
      runs = runs_fit (runs_of_map c.bytes) runs;
    }

pub entry_fits : (e : EntryValue) → IsShort MAX_LENGTH e → OnHeld IsNamed e → OnHeld FitsFacts e
entry_fits Spoilt short named = tt
entry_fits (Held e) short named = record { named = named; cover = cover_fits e.cover short.below short.marks }
