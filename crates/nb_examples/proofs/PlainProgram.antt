-- When a key is whole, by the tests of the plain program, and its datagram.
use Rattle.std.proofs.Common.{◌≡◌, ◌<◌, ◌≤◌, ◌+◌, ℕ, Bool, true, false, cond, List, [], ◌∷◌, length, slice_get, option_and_then, Option, Some, None, Result, Ok, Err, IsErrAnd, IsErrOf, is_some, inl, inr, refl, sym, ◌∙◌, ap, arith, ◌-◌, ◌==◌, ◌↔◌, ◌&&◌, ◌||◌, IsTrue, not, take, drop, get_or, nat_lt, ap₂, drop-cons, length-drop, le_of_eq, add-one, drop_of_length-le}
use Rattle.std.proofs.lemmas.Bool.{cases_lt, eqb-true, eq-eqb, ltb-true, lt-ltb, not-true, not-false}
use Rattle.std.specs.FinMap as maps
use Rattle.nb_datagram.specs.declared.key.Key.{Key}
use Rattle.nb_datagram.specs.Fragment.{Core, FragmentParts, core_of, cores_of, Covers, reach, end_of_one, DatagramParts}
use Rattle.nb_datagram.specs.declared.limits.TheConstants.{MAX_LENGTH}
use Rattle.nb_entries.specs.declared.slot.Slot.TheVariants.{Spoilt, Held}
use Rattle.nb_entries.specs.Entry.{EntryValue, facts_agree, facts_of}
use Rattle.nb_table.specs.Conflict.{IsSpoilt, Overlap, PastEnd, BreaksPromise, Conflict, kinds, sources, destinations, overlap, ends, past_end, past_other_end, breaks, breaks_other, some_conflict, with_key, is_spoilt, conflicts}
use Rattle.nb_table.specs.Contents.{marks_in, byte_at, end_of, cover_in, facts_in, entry_in, table_of, datagram_at, IsWholeAt}
use Rattle.nb_entries.specs.Whole.{IsWhole, bytes_below, bytes_to, datagram_with, datagram_of}
use Rattle.nb_examples.specs.Plain.{IsLong, CoversBelow, datagram_to, differ, SameHeader}
use Rattle.nb_examples.specs.declared.plain.whole.PlainFault.{PlainFault}
use Rattle.nb_examples.specs.declared.plain.whole.PlainFault.TheVariants.{TooLong, NoMemory}
use Rattle.nb_table.specs.Shared.ConflictLemmas.{is_spoilt_decides, conflicts_decides, past_from, covers}
use Rattle.nb_table.specs.Shared.ContentsLemmas.{get-cover_in}
use Rattle.nb_table.specs.Shared.TableLemmas.{get-table_of}
use Rattle.nb_table.specs.Shared.SayingLemmas.{spoilt_exactly, held_says, says_end}
use Rattle.nb_entries.specs.Shared.WholeLemmas.{whole_exactly, with_found, below_found}
use Rattle.std.proofs.lemmas.List.{take_all}
use Rattle.std.specs.List.{list_any}
use Rattle.std.proofs.lemmas.Option.{slice_get-get_or, slice_get_within, same_Some}
use Rattle.nb_datagram.specs.Key.{same_key}
use Rattle.nb_entries.specs.Shared.EntryLemmas.{facts_fit_of}
use Rattle.nb_entries.specs.Shared.PlacedLemmas.{end_of_decides, covers_below}

-- ---- places that are covered

pub some_of : (o : Option ℕ) → is_some o ≡ true → (x : ℕ) × (o ≡ Some x)
some_of None h = absurd (cc)
some_of (Some x) h = (x, refl)

pub covers_more : (L : List Core) (k : Key) (n : ℕ) → CoversBelow L k n → (x : ℕ) × (byte_at L k n ≡ Some x) → CoversBelow L k (n + 1)
covers_more L k n below last i h = elim (cases_lt i n) [
  | inl f ↦ below i f
  | inr f ↦ let here : i ≡ n = omega (arith, f, h) in (last.0, ap (byte_at L k) here ∙ last.1)
]

pub covers_not : (L : List Core) (k : Key) (n i : ℕ) → i < n → is_some (byte_at L k i) ≡ false → CoversBelow L k n → ⊥
covers_not L k n i h e below = let clash : false ≡ true = sym e ∙ ap is_some (below i h).1 in absurd (cc clash)

-- ---- the entry of a key that ends and isn't spoilt

-- the facts of a key that isn't spoilt, from its first fragment
pub held_from : (L : List Core) (k : Key) (f : Core) → (IsSpoilt L k → ⊥) → slice_get (with_key k L) 0 ≡ Some f → maps.get (table_of L) k ≡ Some (Held (facts_in f (with_key k L)))
held_from L k f free first = get-table_of L k ∙ chosen (with_key k L) first (unspoilt (is_spoilt L k) refl)
  where
    unspoilt : (b : Bool) → is_spoilt L k ≡ b → is_spoilt L k ≡ false
    unspoilt true e = absurd (free ((is_spoilt_decides L k).0 e))
    unspoilt false e = e

    chosen : (fs : List Core) → slice_get fs 0 ≡ Some f → some_conflict fs ≡ false → entry_in fs ≡ Some (Held (facts_in f fs))
    chosen [] e h = absurd (cc)
    chosen (g ∷ gs) e h = let one : g ≡ f = cc in ap (λ b. Some (cond b Spoilt (Held (facts_in g (g ∷ gs))))) h ∙ ap (λ x. Some (Held (facts_in x (g ∷ gs)))) one

-- a key that ends has a first fragment
pub first_of_ending : (fs : List Core) (n : ℕ) → (marks_in fs).end ≡ Some n → (f : Core) × (slice_get fs 0 ≡ Some f)
first_of_ending [] n h = absurd (cc)
first_of_ending (f ∷ fs) n h = (f, refl)

-- ---- whole keys

pub whole_from : (L : List Core) (k : Key) (n : ℕ) → (IsSpoilt L k → ⊥) → end_of L k ≡ Some n → CoversBelow L k n → IsWholeAt (table_of L) k
whole_from L k n free ends_at below =
    let first = first_of_ending (with_key k L) n ends_at in (
      Held (facts_in first.0 (with_key k L)),
      held_from L k first.0 free first.1,
      record { length = n; ends = ends_at; covered = λ i h. (let w = below i h in (w.0, get-cover_in (with_key k L) i ∙ w.1)) },
    )

spoilt_not_whole : (L : List Core) (k : Key) (e : EntryValue) → maps.get (table_of L) k ≡ Some e → IsWhole e → IsSpoilt L k → ⊥
spoilt_not_whole L k Spoilt h w s = w
spoilt_not_whole L k (Held e) h w s = let clash = sym h ∙ (spoilt_exactly L k).1 s in absurd (cc clash)

pub whole_free : (L : List Core) (k : Key) → IsWholeAt (table_of L) k → IsSpoilt L k → ⊥
whole_free L k w = spoilt_not_whole L k w.0 w.1 w.2

whole_in : (L : List Core) (k : Key) (e : EntryValue) → maps.get (table_of L) k ≡ Some e → IsWhole e → (n : ℕ) × (end_of L k ≡ Some n) × CoversBelow L k n
whole_in L k Spoilt h w = absurd w
whole_in L k (Held e) h w =
    let s = held_says L k e h in
    (w.length, sym (says_end L k e s) ∙ w.ends, λ i f. (let c = w.covered i f in (c.0, sym (s.bytes i) ∙ c.1)))

pub whole_ends : (L : List Core) (k : Key) → IsWholeAt (table_of L) k → (n : ℕ) × (end_of L k ≡ Some n) × CoversBelow L k n
whole_ends L k w = whole_in L k w.0 w.1 w.2

-- ---- the datagram

-- a key that isn't whole gives no datagram
pub not_whole : (L : List Core) (k : Key) → (IsWholeAt (table_of L) k → ⊥) → datagram_at (table_of L) k ≡ None
not_whole L k h = at (maps.get (table_of L) k) refl
  where
    none : (e : EntryValue) (o : Option DatagramParts) → datagram_of k e ≡ o → maps.get (table_of L) k ≡ Some e → datagram_of k e ≡ None
    none e None d g = d
    none e (Some x) d g = absurd (h (e, g, (whole_exactly k e).1 (x, d)))

    at : (o : Option EntryValue) → maps.get (table_of L) k ≡ o → option_and_then (datagram_of k) o ≡ None
    at None g = refl
    at (Some e) g = none e (datagram_of k e) refl g

-- the datagram of a key, from its first fragment, its end and its bytes
datagram_is : (L : List Core) (k : Key) (f : Core) (n : ℕ) → (IsSpoilt L k → ⊥) → slice_get (with_key k L) 0 ≡ Some f → end_of L k ≡ Some n →
    datagram_at (table_of L) k ≡ datagram_to L k f n
datagram_is L k f n free first ends_at =
    ap (option_and_then (datagram_of k)) (held_from L k f free first)
    ∙ ap (λ o. datagram_with k (facts_in f (with_key k L)) (bytes_to (cover_in (with_key k L)).bytes o)) ends_at

-- and it has as many bytes as the end says
size_of_datagram : (L : List Core) (k : Key) (f : Core) (n : ℕ) (d : DatagramParts) → datagram_to L k f n ≡ Some d → length d.bytes ≡ n
size_of_datagram L k f n d h =
    let w = with_found k (facts_in f (with_key k L)) (bytes_below (cover_in (with_key k L)).bytes n) d h in
    let b = below_found (cover_in (with_key k L)).bytes n w.0 w.1 in
    ap (λ (d : DatagramParts). length d.bytes) w.2 ∙ b.count

not_long : (L : List Core) (k : Key) (f : Core) (n : ℕ) (o : Option DatagramParts) → datagram_to L k f n ≡ o → n ≤ MAX_LENGTH → IsLong o → ⊥
not_long L k f n None e h long = long
not_long L k f n (Some d) e h long = let size = size_of_datagram L k f n d e in omega (arith, size, h, long)

-- a whole key has a datagram
whole_given : (L : List Core) (k : Key) → IsWholeAt (table_of L) k → (d : DatagramParts) × (datagram_at (table_of L) k ≡ Some d)
whole_given L k w = let d = (whole_exactly k w.0).0 w.2 in (d.0, ap (option_and_then (datagram_of k)) w.1 ∙ d.1)

pub none_whole : (L : List Core) (k : Key) → datagram_at (table_of L) k ≡ None → IsWholeAt (table_of L) k → ⊥
none_whole L k h w = let d = whole_given L k w in let both : None ≡ Some d.0 = sym h ∙ d.1 in cc both

is_long : (L : List Core) (k : Key) (f : Core) (n : ℕ) (o : Option DatagramParts) → (d : DatagramParts) × (o ≡ Some d) → datagram_to L k f n ≡ o → MAX_LENGTH < n → IsLong o
is_long L k f n None w e h = let clash = w.1 in absurd (cc clash)
is_long L k f n (Some d) w e h = let size = size_of_datagram L k f n d e in omega (arith, size, h)

pub none_long : (o : Option DatagramParts) → o ≡ None → IsLong o → ⊥
none_long None e h = h
none_long (Some d) e h = absurd (cc)

-- a whole key ends, and has a first fragment
pub whole_ending : (L : List Core) (k : Key) → IsWholeAt (table_of L) k → end_of L k ≡ None → ⊥
whole_ending L k w e = let t = whole_ends L k w in let clash : Some t.0 ≡ None = sym t.1 ∙ e in cc clash

pub whole_starting : (L : List Core) (k : Key) → IsWholeAt (table_of L) k → slice_get (with_key k L) 0 ≡ None → ⊥
whole_starting L k w e =
    let t = whole_ends L k w in
    let f = first_of_ending (with_key k L) t.0 t.1 in
    let clash : Some f.0 ≡ None = sym f.1 ∙ e in cc clash

-- want of memory isn't the other fault
pub not_this : {T : Type 0} (r : Result T PlainFault) → IsErrAnd r (λ e. e ≡ NoMemory) → IsErrOf r TooLong → ⊥
not_this (Ok x) h e = absurd (cc e)
not_this (Err f) h e = absurd (cc (h, e))

-- the datagram of a whole key, from its first fragment and its end
pub whole_is : (L : List Core) (k : Key) (f : Core) (n : ℕ) → IsWholeAt (table_of L) k → Some f ≡ slice_get (with_key k L) 0 → Some n ≡ end_of L k → datagram_to L k f n ≡ datagram_at (table_of L) k
whole_is L k f n w first ends_at = sym (datagram_is L k f n (whole_free L k w) (sym first) (sym ends_at))

pub whole_long : (L : List Core) (k : Key) (f : Core) (n : ℕ) → IsWholeAt (table_of L) k → Some f ≡ slice_get (with_key k L) 0 → Some n ≡ end_of L k → MAX_LENGTH < n → IsLong (datagram_at (table_of L) k)
whole_long L k f n w first ends_at h = is_long L k f n (datagram_at (table_of L) k) (whole_given L k w) (whole_is L k f n w first ends_at) h

pub whole_short : (L : List Core) (k : Key) (f : Core) (n : ℕ) → IsWholeAt (table_of L) k → Some f ≡ slice_get (with_key k L) 0 → Some n ≡ end_of L k → n ≤ MAX_LENGTH → IsLong (datagram_at (table_of L) k) → ⊥
whole_short L k f n w first ends_at h = not_long L k f n (datagram_at (table_of L) k) (whole_is L k f n w first ends_at) h

-- ---- places with two bytes

-- two values that differ
record Differing (o p : Option ℕ) : Type 0 where
  one : ℕ
  other : ℕ
  has_one : o ≡ Some one
  has_other : p ≡ Some other
  differs : (one == other) ≡ false

differing : (o p : Option ℕ) → differ o p ≡ true → Differing o p
differing None p h = absurd (cc)
differing (Some x) None h = absurd (cc)
differing (Some x) (Some y) h = record { one = x; other = y; has_one = refl; has_other = refl; differs = not-true (x == y) h }

same_bytes : (x y : ℕ) → differ (Some x) (Some y) ≡ false → x ≡ y
same_bytes x y h = eqb-true x y (not-false (x == y) h)

-- ---- places past an end

pub past_end_decides : (f g : Core) (n r : ℕ) → end_of_one f ≡ Some n → 0 < length g.bytes → r ≡ reach g → IsTrue (nat_lt n r) ↔ PastEnd f g
past_end_decides f g n r e some s = (
  λ h. let over : n < r = ltb-true n r h in
      let last : Covers g (g.offset + (length g.bytes - 1)) (get_or g.bytes (length g.bytes - 1) 0) =
      (omega arith, ap (slice_get g.bytes) (omega arith) ∙ slice_get-get_or g.bytes (length g.bytes - 1) 0 (omega (arith, some))) in
      past_from f g n (g.offset + (length g.bytes - 1)) (get_or g.bytes (length g.bytes - 1) 0) ((end_of_decides f n).0 e) last (omega (arith, over, s, some)),
  λ p. elim (cases_lt n r) [
    | inl over ↦ lt-ltb n r over
    | inr under ↦
        let same : p.end ≡ n = same_Some p.end n (sym ((end_of_decides f p.end).1 p.ends) ∙ e) in
        absurd (p.past (λ i x c. (let below = covers_below g i x (covers g i x c) in omega (arith, below, s, same, under))))
  ],
)

-- a fragment without data lies below each end
pub empty_never_past : (f g : Core) → length g.bytes ≡ 0 → PastEnd f g → ⊥
empty_never_past f g none p =
    p.past (λ i x c. (let inside = slice_get_within g.bytes (i - g.offset) x (covers g i x c).1 in absurd (omega (arith, inside, none))))

-- ---- conflicts

header_test : (f g : Core) (b : Bool) → facts_agree (facts_of f) (facts_of g) ≡ b → (SameHeader f g → ⊥) → not b ≡ true
header_test f g true e h = let a = facts_fit_of (facts_of f) (facts_of g) e in absurd (h (a.kind, (a.source, a.destination)))
header_test f g false e h = refl

-- fragments without the same kind and names conflict
pub header_conflict : (f g : Core) → (SameHeader f g → ⊥) → Conflict f g
header_conflict f g h = (conflicts_decides f g).0 (header_test f g (facts_agree (facts_of f) (facts_of g)) refl h)

pub ends_conflict : (f g : Core) → differ (end_of_one f) (end_of_one g) ≡ true → Conflict f g
ends_conflict f g h =
    let w = differing (end_of_one f) (end_of_one g) h in
    ends w.one w.other ((end_of_decides f w.one).0 w.has_one) ((end_of_decides g w.other).0 w.has_other)
    (λ e. (let clash : true ≡ false = sym (eq-eqb w.one w.other e) ∙ w.differs in cc clash))

-- a conflict of none of the other kinds is that g breaks a promise of f
pub last_conflict : (f g : Core) → SameHeader f g → (Overlap f g → ⊥) → differ (end_of_one f) (end_of_one g) ≡ false → (PastEnd f g → ⊥) → (PastEnd g f → ⊥) → (BreaksPromise f g → ⊥) → Conflict f g → BreaksPromise g f
last_conflict f g h o e p q b (kinds n) = absurd (n h.0)
last_conflict f g h o e p q b (sources n) = absurd (n h.1.0)
last_conflict f g h o e p q b (destinations n) = absurd (n h.1.1)
last_conflict f g h o e p q b (overlap w) = absurd (o w)
last_conflict f g h o e p q z (ends m n a b d) = absurd (d (same_bytes m n (ap₂ differ (sym ((end_of_decides f m).1 a)) (sym ((end_of_decides g n).1 b)) ∙ e)))
last_conflict f g h o e p q b (past_end w) = absurd (p w)
last_conflict f g h o e p q b (past_other_end w) = absurd (q w)
last_conflict f g h o e p q b (breaks w) = absurd (b w)
last_conflict f g h o e p q b (breaks_other w) = w

-- ---- spoilt keys

spoils_test : (k : Key) (f : Core) (W : List Core) (s b : Bool) → b ≡ (s && list_any (conflicts f) W) → some_conflict (cond s (f ∷ W) W) ≡ (b || some_conflict W)
spoils_test k f W true b e = ap (λ p. p || some_conflict W) (sym e)
spoils_test k f W false b e = ap (λ p. p || some_conflict W) (sym e)

-- one more fragment of a list that is looked at for conflicts
pub spoilt_turn : (k : Key) (fs : List FragmentParts) (i : ℕ) (x : FragmentParts) (b : Bool) → i < length fs → x ≡ get_or fs i x →
    b ≡ (same_key k x.key && list_any (conflicts (core_of x)) (with_key k (cores_of (take (length fs - (i + 1)) (drop (i + 1) fs))))) →
    is_spoilt (cores_of (drop i fs)) k ≡ (b || is_spoilt (cores_of (drop (i + 1) fs)) k)
spoilt_turn k fs i x b h e s =
    ap (λ (gs : List FragmentParts). is_spoilt (cores_of gs) k) (drop-cons fs i x h ∙ ap₂ (λ y (gs : List FragmentParts). y ∷ gs) (sym e) (ap (λ n. drop n fs) (sym (add-one i))))
    ∙ spoils_test k (core_of x) (with_key k (cores_of (drop (i + 1) fs))) (same_key k x.key) b
    (s ∙ ap (λ (gs : List FragmentParts). same_key k x.key && list_any (conflicts (core_of x)) (with_key k (cores_of gs)))
    (take_all (length fs - (i + 1)) (drop (i + 1) fs) (le_of_eq (length-drop (i + 1) fs))))

-- nothing is left after the last fragment
pub spoilt_end : (k : Key) (fs : List FragmentParts) (i : ℕ) → length fs ≤ i → is_spoilt (cores_of (drop i fs)) k ≡ is_spoilt (cores_of fs) k → is_spoilt (cores_of fs) k ≡ false
spoilt_end k fs i h e = sym e ∙ ap (λ (gs : List FragmentParts). is_spoilt (cores_of gs) k) (drop_of_length-le fs h)
