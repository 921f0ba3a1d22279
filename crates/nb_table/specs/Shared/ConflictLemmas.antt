-- The tests of conflict and spoiling are the relations.
use Rattle.std.proofs.Common.{◌≡◌, ◌≢◌, ◌≤◌, ◌↔◌, ◌⊎◌, inl, inr, ℕ, Bool, true, false, cond, not, List, [], ◌∷◌, Contains, filter, Option, Some, None, refl, sym, ◌∙◌, ap, subst, arith, nat_lt, Decides, ◌<◌}
use Rattle.std.proofs.lemmas.Bool.{eq-eqb, ltb-false, and_cases, or_cases, or_left, or_right, not-true}
use Rattle.std.specs.Cmp.{nat_cmp_total}
use Rattle.std.specs.List.{list_any}
use Rattle.std.specs.FinMap as map
use Rattle.std.specs.FinMap.{nat_cmp-IsAntisymmetric}
use Rattle.nb_datagram.specs.declared.key.Key.{Key}
use Rattle.nb_datagram.specs.Packet.{same_kind}
use Rattle.nb_datagram.specs.Key.{same_key, same_key_decides}
use Rattle.nb_datagram.specs.Fragment.{Core, Covers, EndsAt, end_of_one}
use Rattle.nb_entries.specs.Marks.{Promises, promise_of_one, is_before, same_where, ends_agree}
use Rattle.nb_entries.specs.Cover.{CoverFacts, bytes_lie_below, lies_below, bytes_agree, is_below_end, covers_agree, cover_of}
use Rattle.nb_entries.specs.Entry.{FactsFit, facts_agree, facts_of}
use Rattle.nb_table.specs.Conflict.{PastEnd, BreaksPromise, Conflict, kinds, sources, destinations, overlap, ends, past_end, past_other_end, breaks, breaks_other, IsSpoilt, conflicts, some_conflict, with_key, is_spoilt}
use Rattle.nb_names.specs.Name.{name_eq}
use Rattle.nb_names.specs.NameFacts.{name_eq_decides}
use Rattle.nb_entries.specs.Shared.MapsLemmas.{entry_fails}
use Rattle.nb_datagram.specs.EqualityFacts.{same_kind_decides}
use Rattle.std.proofs.lemmas.Bool.Decides.{not_from_Decides}
use Rattle.nb_entries.specs.Shared.PlacedLemmas.{get-cover_of, byte_of_decides, end_of_decides, cover_of_formed, promise_of_decides, covers_below}
use Rattle.nb_entries.specs.Shared.CoverLemmas.{bytes_below_decides}
use Rattle.nb_entries.specs.Shared.EntryLemmas.{facts_fit_of, entry_agrees, facts_unite}
use Rattle.nb_table.specs.Shared.ContentsLemmas.{in_cons, in_first, in_rest, in_none}

-- ---- where a test fails

pub covers : (f : Core) (i x : ℕ) → map.get (cover_of f).bytes i ≡ Some x → Covers f i x
covers f i x e = (byte_of_decides f i x).0 (sym (get-cover_of f i) ∙ e)

pub covered : (f : Core) (i x : ℕ) → Covers f i x → map.get (cover_of f).bytes i ≡ Some x
covered f i x c = get-cover_of f i ∙ (byte_of_decides f i x).1 c

differs : (o : Option ℕ) (x : ℕ) → same_where o x ≡ false → (y : ℕ) × (o ≡ Some y) × (x ≢ y)
differs None x e = absurd (cc)
differs (Some y) x e = (y, refl, λ h. (let clash : true ≡ false = sym (eq-eqb y x (sym h)) ∙ e in cc clash))

two_ends : (o p : Option ℕ) → ends_agree o p ≡ false → (m n : ℕ) × (o ≡ Some m) × (p ≡ Some n) × (m ≢ n)
two_ends None p e = absurd (cc)
two_ends (Some m) p e = let d = differs p m e in (m, d.0, refl, d.1, d.2)

past : (o : Option ℕ) (c : CoverFacts) → is_below_end o c ≡ false → (n : ℕ) × (o ≡ Some n) × (lies_below n c ≡ false)
past None c e = absurd (cc)
past (Some n) c e = (n, refl, e)

not_before : (o : Option ℕ) (n : ℕ) → is_before o n ≡ false → (r : ℕ) × (o ≡ Some r) × (n ≤ r)
not_before None n e = absurd (cc)
not_before (Some r) n e = (r, refl, ltb-false r n e)

-- g covers a place at or past an end of f
pub past_from : (f g : Core) (n i x : ℕ) → EndsAt f n → Covers g i x → n ≤ i → PastEnd f g
past_from f g n i x e c h = record { end = n; ends = e; past = λ p. (let below = p i x (covered g i x c) in omega (arith, below, h)) }

-- the place that one fragment covers at or past the end of another
pub past_place : (f g : Core) → PastEnd f g → (n i x : ℕ) × EndsAt f n × Covers g i x × (n ≤ i)
past_place f g p = found (bytes_lie_below p.end (cover_of g).bytes) refl
  where
    found : (b : Bool) → bytes_lie_below p.end (cover_of g).bytes ≡ b → (n i x : ℕ) × EndsAt f n × Covers g i x × (n ≤ i)
    found true e = absurd (p.past ((bytes_below_decides p.end (cover_of g).bytes).0 e))
    found false e =
        let w = entry_fails nat_cmp_total nat_cmp-IsAntisymmetric (λ i _. nat_lt i p.end) (cover_of g).bytes e in
        (p.end, w.key, w.value, p.ends, covers g w.key w.value w.found, ltb-false w.key p.end w.fails)

pub past_end_exactly : (f g : Core) → PastEnd f g ↔ ((n i x : ℕ) × EndsAt f n × Covers g i x × (n ≤ i))
past_end_exactly f g = (past_place f g, λ w. past_from f g w.0 w.1 w.2 w.3 w.4 w.5)

-- a byte exactly at an end conflicts with it
pub at_end_conflicts : (f g : Core) (n x : ℕ) → EndsAt f n → Covers g n x → Conflict f g
at_end_conflicts f g n x e c = past_end (past_from f g n n x e c (omega arith))

-- so does an end exactly at a promise
pub at_promise_conflicts : (f g : Core) (n : ℕ) → EndsAt f n → Promises g n → Conflict f g
at_promise_conflicts f g n e p = breaks (record { end = n; promised = n; ends = e; promises = p; broken = omega arith })

clash_of_bytes : (f g : Core) → bytes_agree (cover_of f).bytes (cover_of g).bytes ≡ false → Conflict f g
clash_of_bytes f g e =
    let w = entry_fails nat_cmp_total nat_cmp-IsAntisymmetric (λ i v. same_where (map.get (cover_of g).bytes i) v) (cover_of f).bytes e in
    let d = differs (map.get (cover_of g).bytes w.key) w.value w.fails in
    overlap (record { place = w.key; byte = w.value; other_byte = d.0; covers = covers f w.key w.value w.found; other_covers = covers g w.key d.0 d.1; differs = d.2 })

clash_of_ends : (f g : Core) → ends_agree (end_of_one f) (end_of_one g) ≡ false → Conflict f g
clash_of_ends f g e =
    let d = two_ends (end_of_one f) (end_of_one g) e in
    ends d.0 d.1 ((end_of_decides f d.0).0 d.2) ((end_of_decides g d.1).0 d.3) d.4

past_of : (f g : Core) → is_below_end (end_of_one f) (cover_of g) ≡ false → PastEnd f g ⊎ BreaksPromise f g
past_of f g e =
    let d = past (end_of_one f) (cover_of g) e in
    let ends = (end_of_decides f d.0).0 d.1 in
    elim (and_cases (bytes_lie_below d.0 (cover_of g).bytes) _ d.2) [
      | inl h ↦ inl (record { end = d.0; ends = ends; past = not_from_Decides _ (bytes_below_decides d.0 (cover_of g).bytes) h })
      | inr h ↦
          let p = not_before (promise_of_one g) d.0 h in
          inr (record { end = d.0; promised = p.0; ends = ends; promises = (promise_of_decides g p.0).0 p.1; broken = p.2 })
    ]

clash_of_covers : (f g : Core) → covers_agree (cover_of f) (cover_of g) ≡ false → Conflict f g
clash_of_covers f g e = elim (and_cases (bytes_agree (cover_of f).bytes (cover_of g).bytes) _ e) [
  | inl h ↦ clash_of_bytes f g h
  | inr e ↦ elim (and_cases (ends_agree (end_of_one f) (end_of_one g)) _ e) [
    | inl h ↦ clash_of_ends f g h
    | inr e ↦ elim (and_cases (is_below_end (end_of_one g) (cover_of f)) _ e) [
      | inl h ↦ elim (past_of g f h) [ inl p ↦ past_other_end p | inr p ↦ breaks_other p ]
      | inr h ↦ elim (past_of f g h) [ inl p ↦ past_end p | inr p ↦ breaks p ]
    ]
  ]
]

conflict_from : (f g : Core) → facts_agree (facts_of f) (facts_of g) ≡ false → Conflict f g
conflict_from f g e = elim (and_cases (same_kind f.kind g.kind) _ e) [
  | inl h ↦ kinds (not_from_Decides (same_kind f.kind g.kind) (same_kind_decides f.kind g.kind) h)
  | inr e ↦ elim (and_cases (name_eq f.source g.source) _ e) [
    | inl h ↦ sources (not_from_Decides (name_eq f.source g.source) (name_eq_decides f.source g.source) h)
    | inr e ↦ elim (and_cases (name_eq f.destination g.destination) _ e) [
      | inl h ↦ destinations (not_from_Decides (name_eq f.destination g.destination) (name_eq_decides f.destination g.destination) h)
      | inr h ↦ clash_of_covers f g h
    ]
  ]
]

-- ---- no conflict where the facts agree

contradicts : (f g : Core) → FactsFit (facts_of f) (facts_of g) → Conflict f g → ⊥
contradicts f g a (kinds h) = h a.kind
contradicts f g a (sources h) = h a.source
contradicts f g a (destinations h) = h a.destination
contradicts f g a (overlap o) = o.differs (a.cover.bytes o.place o.byte o.other_byte (covered f o.place o.byte o.covers) (covered g o.place o.other_byte o.other_covers))
contradicts f g a (ends m n p q h) = h (a.cover.marks m n ((end_of_decides f m).1 p) ((end_of_decides g n).1 q))
contradicts f g a (past_end p) = p.past (a.cover.other_below p.end ((end_of_decides f p.end).1 p.ends)).bytes
contradicts f g a (past_other_end p) = p.past (a.cover.own_below p.end ((end_of_decides g p.end).1 p.ends)).bytes
contradicts f g a (breaks p) =
    let below = (a.cover.other_below p.end ((end_of_decides f p.end).1 p.ends)).marks p.promised ((promise_of_decides g p.promised).1 p.promises) in
    let broken = p.broken in omega (arith, below, broken)
contradicts f g a (breaks_other p) =
    let below = (a.cover.own_below p.end ((end_of_decides g p.end).1 p.ends)).marks p.promised ((promise_of_decides f p.promised).1 p.promises) in
    let broken = p.broken in omega (arith, below, broken)

test_of : (f g : Core) (b : Bool) → facts_agree (facts_of f) (facts_of g) ≡ b → Conflict f g → not b ≡ true
test_of f g true e c = absurd (contradicts f g (facts_fit_of (facts_of f) (facts_of g) e) c)
test_of f g false e c = refl

pub conflicts_decides : (f g : Core) → Decides (conflicts f g) (Conflict f g)
conflicts_decides f g = (λ e. conflict_from f g (not-true (facts_agree (facts_of f) (facts_of g)) e), test_of f g _ refl)

-- ---- two fragments of a list

any_found : {X : Type 0} (p : X → Bool) (xs : List X) → list_any p xs ≡ true → (x : X) × Contains xs x × (p x ≡ true)
any_found p [] h = absurd (cc)
any_found p (x ∷ xs) h = elim (or_cases (p x) (list_any p xs) h) [
  | inl e ↦ (x, in_first x xs, e)
  | inr e ↦ let w = any_found p xs e in (w.0, in_rest x xs w.0 w.1, w.2)
]

any_from : {X : Type 0} (p : X → Bool) (xs : List X) (x : X) → Contains xs x → p x ≡ true → list_any p xs ≡ true
any_from p [] x c h = absurd (in_none x c)
any_from p (y ∷ ys) x c h = elim (in_cons y ys x c) [
  | inl e ↦ or_left (p y) (list_any p ys) (ap p e ∙ h)
  | inr c ↦ or_right (p y) (list_any p ys) (any_from p ys x c h)
]

-- two fragments of these conflict
record Pair (gs : List Core) : Type 0 where
  one : Core
  other : Core
  has_one : Contains gs one
  has_other : Contains gs other
  conflict : conflicts one other ≡ true

pair_found : (gs : List Core) → some_conflict gs ≡ true → Pair gs
pair_found [] h = absurd (cc)
pair_found (f ∷ fs) h = elim (or_cases (list_any (conflicts f) fs) (some_conflict fs) h) [
  | inl e ↦ let w = any_found (conflicts f) fs e in record { one = f; other = w.0; has_one = in_first f fs; has_other = in_rest f fs w.0 w.1; conflict = w.2 }
  | inr e ↦ let w = pair_found fs e in record { one = w.one; other = w.other; has_one = in_rest f fs w.one w.has_one; has_other = in_rest f fs w.other w.has_other; conflict = w.conflict }
]

turned : (f g : Core) → conflicts f g ≡ true → conflicts g f ≡ true
turned f g h = step (facts_agree (facts_of g) (facts_of f)) refl
  where
    step : (b : Bool) → facts_agree (facts_of g) (facts_of f) ≡ b → not b ≡ true
    step true e = let clash : facts_agree (facts_of f) (facts_of g) ≡ true = facts_unite.turned (facts_of g) (facts_of f) e in
        let fails = not-true (facts_agree (facts_of f) (facts_of g)) h in
        absurd (let both : true ≡ false = sym clash ∙ fails in cc both)
    step false e = refl

not_itself : (f : Core) → conflicts f f ≡ true → ⊥
not_itself f h =
    let fails = not-true (facts_agree (facts_of f) (facts_of f)) h in
    let agrees = entry_agrees (facts_of f) (cover_of_formed f) in
    let both : true ≡ false = sym agrees ∙ fails in cc both

pair_from : (gs : List Core) (f g : Core) → Contains gs f → Contains gs g → conflicts f g ≡ true → some_conflict gs ≡ true
pair_from [] f g c d h = absurd (in_none f c)
pair_from (e ∷ es) f g c d h = elim (in_cons e es f c) [
  | inl a ↦ elim (in_cons e es g d) [
    | inl b ↦ absurd (not_itself e (ap (conflicts e) b ∙ ap (λ x. conflicts x g) a ∙ h))
    | inr d ↦ or_left (list_any (conflicts e) es) (some_conflict es) (any_from (conflicts e) es g d (ap (λ x. conflicts x g) a ∙ h))
  ]
  | inr c ↦ elim (in_cons e es g d) [
    | inl b ↦ or_left (list_any (conflicts e) es) (some_conflict es) (any_from (conflicts e) es f c (ap (λ x. conflicts x f) b ∙ turned f g h))
    | inr d ↦ or_right (list_any (conflicts e) es) (some_conflict es) (pair_from es f g c d h)
  ]
]

-- ---- the fragments of a key

pub in_filter : {X : Type 0} (p : X → Bool) (xs : List X) (x : X) → Contains (filter p xs) x → Contains xs x × (p x ≡ true)
in_filter p [] x c = absurd (in_none x c)
in_filter p (y ∷ ys) x c = step (p y) refl c (in_filter p ys x)
  where
    step : (b : Bool) → p y ≡ b → Contains (cond b (y ∷ filter p ys) (filter p ys)) x → (Contains (filter p ys) x → Contains ys x × (p x ≡ true)) → Contains (y ∷ ys) x × (p x ≡ true)
    step true e c rec = elim (in_cons y (filter p ys) x c) [
      | inl h ↦ (subst (Contains (y ∷ ys)) h (in_first y ys), ap p (sym h) ∙ e)
      | inr d ↦ let r = rec d in (in_rest y ys x r.0, r.1)
    ]
    step false e c rec = let r = rec c in (in_rest y ys x r.0, r.1)

pub filter_in : {X : Type 0} (p : X → Bool) (xs : List X) (x : X) → Contains xs x → p x ≡ true → Contains (filter p xs) x
filter_in p [] x c h = absurd (in_none x c)
filter_in p (y ∷ ys) x c h = elim (in_cons y ys x c) [
  | inl e ↦ subst (λ z. Contains (filter p (y ∷ ys)) z) e (step (p y) (ap p e ∙ h))
  | inr d ↦ other (p y) (filter_in p ys x d h)
]
  where
    step : (b : Bool) → b ≡ true → Contains (cond b (y ∷ filter p ys) (filter p ys)) y
    step true e = in_first y (filter p ys)
    step false e = absurd (cc)

    other : (b : Bool) → Contains (filter p ys) x → Contains (cond b (y ∷ filter p ys) (filter p ys)) x
    other true d = in_rest y (filter p ys) x d
    other false d = d

pub in_with_key : (k : Key) (L : List Core) (f : Core) → Contains (with_key k L) f → Contains L f × (f.key ≡ k)
in_with_key k L f c = let r = in_filter (λ f. same_key k f.key) L f c in (r.0, sym ((same_key_decides k f.key).0 r.1))

pub with_key_in : (k : Key) (L : List Core) (f : Core) → Contains L f → f.key ≡ k → Contains (with_key k L) f
with_key_in k L f c e = filter_in (λ f. same_key k f.key) L f c ((same_key_decides k f.key).1 (sym e))

pub is_spoilt_decides : (L : List Core) (k : Key) → Decides (is_spoilt L k) (IsSpoilt L k)
is_spoilt_decides L k = (found, from)
  where
    found : is_spoilt L k ≡ true → IsSpoilt L k
    found h =
        let p = pair_found (with_key k L) h in
        let one = in_with_key k L p.one p.has_one in
        let other = in_with_key k L p.other p.has_other in
        record {
          one = p.one;
          other = p.other;
          has_one = one.0;
          has_other = other.0;
          of_key = one.1;
          disagree = record { one_key = one.1 ∙ sym other.1; conflict = (conflicts_decides p.one p.other).0 p.conflict };
        }

    from : IsSpoilt L k → is_spoilt L k ≡ true
    from s =
        pair_from (with_key k L) s.one s.other
        (with_key_in k L s.one s.has_one s.of_key)
        (with_key_in k L s.other s.has_other (sym s.disagree.one_key ∙ s.of_key))
        ((conflicts_decides s.one s.other).1 s.disagree.conflict)

-- ---- An end past a promise contradicts nothing.

pub past_promise_fits : (f g : Core) (n r : ℕ) → EndsAt f n → Promises g r → r < n → f.kind ≡ g.kind → f.source ≡ g.source → f.destination ≡ g.destination → ((i x y : ℕ) → Covers f i x → Covers g i y → x ≡ y) → Conflict f g → ⊥
past_promise_fits f g n r e p less kind source destination same c = step c
  where
    open_end : (m : ℕ) → EndsAt g m → ⊥
    open_end m h = let clash = sym p.0 ∙ h.0 in absurd (cc clash)

    step : Conflict f g → ⊥
    step (kinds h) = h kind
    step (sources h) = h source
    step (destinations h) = h destination
    step (overlap o) = o.differs (same o.place o.byte o.other_byte o.covers o.other_covers)
    step (ends m k h i apart) = open_end k i
    step (past_end h) =
        let w = past_place f g h in
        let below = covers_below g w.1 w.2 w.4 in
        let at = p.1 in
        let end = e.1 in
        let ended = w.3.1 in
        let past = w.5 in
        omega (arith, less, below, at, end, ended, past)
    step (past_other_end h) = open_end h.end h.ends
    step (breaks b) =
        let end = e.1 in
        let ended = b.ends.1 in
        let at = p.1 in
        let promised = b.promises.1 in
        let broken = b.broken in
        omega (arith, less, end, ended, at, promised, broken)
    step (breaks_other b) = open_end b.end b.ends
