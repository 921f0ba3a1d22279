-- What a table has at a key, in the words of its list: nothing, spoilt, or what the fragments say.
use Rattle.std.proofs.Common.{◌≡◌, ◌≤◌, arith, inl, inr, ℕ, Contains, List, [], ◌∷◌, Option, Some, None, refl, ◌∙◌, ap, ◌≢◌, ◌↔◌, Bool, true, false, cond, slice_get, sym, subst}
use Rattle.nb_datagram.specs.Fragment.{Core, Covers, EndsAt, byte_of, end_of_one}
use Rattle.nb_entries.specs.Maps.{first_of}
use Rattle.nb_entries.specs.declared.cover.marks.Marks.{Marks}
use Rattle.nb_entries.specs.Marks.{Promises, promise_of_one}
use Rattle.nb_table.specs.Contents.{first_byte, marks_in, end_of, promise_of, Contents, facts_in, entry_in, table_of, Says, IsEntryOf, IsTableOf, HasByte, HasEnd, HasPromise}
use Rattle.nb_entries.specs.Shared.MarksLemmas.{first_either, greater_either, greater_left, greater_right}
use Rattle.nb_entries.specs.Shared.CoverLemmas.{same_cover}
use Rattle.nb_entries.specs.Shared.PlacedLemmas.{promise_of_decides, byte_of_decides, end_of_decides}
use Rattle.nb_table.specs.Shared.ContentsLemmas.{in_none, in_first, in_rest, in_cons, get-cover_in}
use Rattle.std.proofs.lemmas.Bool.{cases_eq}
use Rattle.std.proofs.lemmas.Option.{same_Some, slice_get_within, get_or_from_slice_get}
use Rattle.std.specs.FinMap as maps
use Rattle.nb_datagram.specs.declared.key.Key.{Key}
use Rattle.nb_entries.specs.declared.slot.Slot.TheVariants.{Spoilt, Held}
use Rattle.nb_entries.specs.Entry.{EntryFacts, EntryValue}
use Rattle.nb_table.specs.Conflict.{Conflict, overlap, ends, IsSpoilt, some_conflict, with_key}
use Rattle.nb_table.specs.Shared.TableLemmas.{same_table, get-table_of}
use Rattle.nb_table.specs.Shared.ConflictLemmas.{is_spoilt_decides, with_key_in, in_with_key}

-- ---- The first byte at a place, the first end and the greatest promise of a list of fragments, and whose they are.

-- a fragment of fs covers place i with x
pub record ByteFrom (fs : List Core) (i x : ℕ) : Type 0 where
  pub fragment : Core
  pub has : Contains fs fragment
  pub covers : Covers fragment i x

-- a fragment of fs ends at n
pub record EndFrom (fs : List Core) (n : ℕ) : Type 0 where
  pub fragment : Core
  pub has : Contains fs fragment
  pub ends : EndsAt fragment n

pub first_byte_from : (fs : List Core) (i x : ℕ) → first_byte fs i ≡ Some x → ByteFrom fs i x
first_byte_from [] i x e = absurd (cc)
first_byte_from (f ∷ fs) i x e = elim (first_either (byte_of f i) (first_byte fs i) x e) [
  | inl here ↦ record { fragment = f; has = in_first f fs; covers = (byte_of_decides f i x).0 here }
  | inr there ↦ let w = first_byte_from fs i x there in record { fragment = w.fragment; has = in_rest f fs w.fragment w.has; covers = w.covers }
]

pub first_end_from : (fs : List Core) (n : ℕ) → (marks_in fs).end ≡ Some n → EndFrom fs n
first_end_from [] n e = absurd (cc)
first_end_from (f ∷ fs) n e = elim (first_either (end_of_one f) (marks_in fs).end n e) [
  | inl here ↦ record { fragment = f; has = in_first f fs; ends = (end_of_decides f n).0 here }
  | inr there ↦ let w = first_end_from fs n there in record { fragment = w.fragment; has = in_rest f fs w.fragment w.has; ends = w.ends }
]

-- a fragment of fs promises r
pub record PromiseFrom (fs : List Core) (r : ℕ) : Type 0 where
  pub fragment : Core
  pub has : Contains fs fragment
  pub promises : Promises fragment r

pub greatest_promise_from : (fs : List Core) (r : ℕ) → (marks_in fs).promise ≡ Some r → PromiseFrom fs r
greatest_promise_from [] r e = absurd (cc)
greatest_promise_from (f ∷ fs) r e = elim (greater_either (promise_of_one f) (marks_in fs).promise r e) [
  | inl here ↦ record { fragment = f; has = in_first f fs; promises = (promise_of_decides f r).0 here }
  | inr there ↦ let w = greatest_promise_from fs r there in record { fragment = w.fragment; has = in_rest f fs w.fragment w.has; promises = w.promises }
]

-- no fragment promises more than the greater
pub greatest_promise_there : (fs : List Core) (f : Core) (r : ℕ) → Contains fs f → Promises f r → (s : ℕ) × ((marks_in fs).promise ≡ Some s) × (r ≤ s)
greatest_promise_there [] f r h p = absurd (in_none f h)
greatest_promise_there (g ∷ gs) f r h p = elim (in_cons g gs f h) [
  | inl same ↦ greater_left (promise_of_one g) (marks_in gs).promise r (ap promise_of_one same ∙ (promise_of_decides f r).1 p)
  | inr there ↦
      let w = greatest_promise_there gs f r there p in
      let v = greater_right (promise_of_one g) (marks_in gs).promise w.0 w.1 in
      let less = w.2 in let more = v.2 in (v.0, v.1, omega (arith, less, more))
]

first_there : (o p : Option ℕ) (x : ℕ) → o ≡ Some x → (y : ℕ) × (first_of o p ≡ Some y)
first_there None p x e = absurd (cc)
first_there (Some z) p x e = (z, refl)

rest_there : (o p : Option ℕ) → (y : ℕ) × (p ≡ Some y) → (y : ℕ) × (first_of o p ≡ Some y)
rest_there None p w = w
rest_there (Some z) p w = (z, refl)

pub first_byte_there : (fs : List Core) (f : Core) (i x : ℕ) → Contains fs f → Covers f i x → (y : ℕ) × (first_byte fs i ≡ Some y)
first_byte_there [] f i x h c = absurd (in_none f h)
first_byte_there (g ∷ gs) f i x h c = elim (in_cons g gs f h) [
  | inl same ↦ first_there (byte_of g i) (first_byte gs i) x (ap (λ (c : Core). byte_of c i) same ∙ (byte_of_decides f i x).1 c)
  | inr there ↦ rest_there (byte_of g i) (first_byte gs i) (first_byte_there gs f i x there c)
]

pub first_end_there : (fs : List Core) (f : Core) (n : ℕ) → Contains fs f → EndsAt f n → (m : ℕ) × ((marks_in fs).end ≡ Some m)
first_end_there [] f n h c = absurd (in_none f h)
first_end_there (g ∷ gs) f n h c = elim (in_cons g gs f h) [
  | inl same ↦ first_there (end_of_one g) (marks_in gs).end n (ap end_of_one same ∙ (end_of_decides f n).1 c)
  | inr there ↦ rest_there (end_of_one g) (marks_in gs).end (first_end_there gs f n there c)
]

-- ---- nothing

none_from : (fs : List Core) → entry_in fs ≡ None → fs ≡ []
none_from [] h = refl
none_from (f ∷ fs) h = absurd (cc)

none_left : (fs : List Core) → ((f : Core) → Contains fs f → ⊥) → entry_in fs ≡ None
none_left [] h = refl
none_left (f ∷ fs) h = absurd (h f (in_first f fs))

pub absent_exactly : (L : List Core) (k : Key) → (maps.get (table_of L) k ≡ None) ↔ ((f : Core) → Contains L f → f.key ≢ k)
absent_exactly L k = (
  λ h f c e. let empty = none_from (with_key k L) (sym (get-table_of L k) ∙ h) in
      in_none f (subst (λ fs. Contains fs f) empty (with_key_in k L f c e)),
  λ h. get-table_of L k ∙ none_left (with_key k L) (λ f c. let r = in_with_key k L f c in h f r.0 r.1),
)

-- ---- spoilt

chosen_spoilt : (b : Bool) (e : EntryFacts) → ◌≡◌ {A = Option EntryValue} (Some (cond b Spoilt (Held e))) (Some Spoilt) → b ≡ true
chosen_spoilt true e h = refl
chosen_spoilt false e h = absurd (cc)

spoilt_found : (fs : List Core) → entry_in fs ≡ Some Spoilt → some_conflict fs ≡ true
spoilt_found [] h = absurd (cc)
spoilt_found (f ∷ fs) h = chosen_spoilt (some_conflict (f ∷ fs)) (facts_in f (f ∷ fs)) h

spoilt_from : (fs : List Core) → some_conflict fs ≡ true → entry_in fs ≡ Some Spoilt
spoilt_from [] h = absurd (cc)
spoilt_from (f ∷ fs) h = ap (λ b. Some (cond b Spoilt (Held (facts_in f (f ∷ fs))))) h

pub spoilt_exactly : (L : List Core) (k : Key) → (maps.get (table_of L) k ≡ Some Spoilt) ↔ IsSpoilt L k
spoilt_exactly L k = (
  λ h. (is_spoilt_decides L k).0 (spoilt_found (with_key k L) (sym (get-table_of L k) ∙ h)),
  λ s. get-table_of L k ∙ spoilt_from (with_key k L) ((is_spoilt_decides L k).1 s),
)

-- ---- held

-- the first of the fragments, and the facts of all
record First (fs : List Core) (e : EntryFacts) : Type 0 where
  first : Core
  is_first : slice_get fs 0 ≡ Some first
  facts : facts_in first fs ≡ e

chosen_held : (b : Bool) (a e : EntryFacts) → ◌≡◌ {A = Option EntryValue} (Some (cond b Spoilt (Held a))) (Some (Held e)) → a ≡ e
chosen_held true a e h = absurd (cc)
chosen_held false a e h = cc

held_found : (fs : List Core) (e : EntryFacts) → entry_in fs ≡ Some (Held e) → First fs e
held_found [] e h = absurd (cc)
held_found (f ∷ fs) e h = record { first = f; is_first = refl; facts = chosen_held (some_conflict (f ∷ fs)) (facts_in f (f ∷ fs)) e h }

pub held_says : (L : List Core) (k : Key) (e : EntryFacts) → maps.get (table_of L) k ≡ Some (Held e) → Says L k e
held_says L k e h =
    let w = held_found (with_key k L) e (sym (get-table_of L k) ∙ h) in
    record {
      first = w.first;
      is_first = w.is_first;
      kind = ap (λ (a : EntryFacts). a.kind) (sym w.facts);
      source = ap (λ (a : EntryFacts). a.source) (sym w.facts);
      destination = ap (λ (a : EntryFacts). a.destination) (sym w.facts);
      bytes = λ i. ap (λ (a : EntryFacts). maps.get a.cover.bytes i) (sym w.facts) ∙ get-cover_in (with_key k L) i;
      marks = ap (λ (a : EntryFacts). a.cover.marks) (sym w.facts);
    }

-- of the marks, the end and the promise
pub says_end : (L : List Core) (k : Key) (e : EntryFacts) → Says L k e → e.cover.marks.end ≡ end_of L k
says_end L k e says = ap (λ (m : Marks). m.end) says.marks

says_promise : (L : List Core) (k : Key) (e : EntryFacts) → Says L k e → e.cover.marks.promise ≡ promise_of L k
says_promise L k e says = ap (λ (m : Marks). m.promise) says.marks

-- what the list says of a key is one thing
one_saying : (L : List Core) (k : Key) (a b : EntryFacts) → Says L k a → Says L k b → a ≡ b
one_saying L k a b p q =
    let first : p.first ≡ q.first = same_Some p.first q.first (sym p.is_first ∙ q.is_first) in
    let kind = p.kind ∙ ap (λ (f : Core). f.kind) first ∙ sym q.kind in
    let source = p.source ∙ ap (λ (f : Core). f.source) first ∙ sym q.source in
    let destination = p.destination ∙ ap (λ (f : Core). f.destination) first ∙ sym q.destination in
    let cover = same_cover a.cover b.cover (λ i. p.bytes i ∙ sym (q.bytes i)) (p.marks ∙ sym q.marks) in
    λ i. record { kind = kind i; source = source i; destination = destination i; cover = cover i }

-- a key of which the list says something, and which isn't spoilt, is held
says_held : (L : List Core) (k : Key) (e : EntryFacts) → (IsSpoilt L k → ⊥) → Says L k e → (o : Option EntryValue) → maps.get (table_of L) k ≡ o → o ≡ Some (Held e)
says_held L k e free says None h =
    let has : Contains (with_key k L) says.first = (0, slice_get_within (with_key k L) 0 says.first says.is_first, get_or_from_slice_get (with_key k L) 0 says.first says.first says.is_first) in
    let own = in_with_key k L says.first has in
    absurd ((absent_exactly L k).0 h says.first own.0 own.1)
says_held L k e free says (Some Spoilt) h = absurd (free ((spoilt_exactly L k).0 h))
says_held L k e free says (Some (Held a)) h = ap (λ (x : EntryFacts). Some (Held x)) (one_saying L k a e (held_says L k a h) says)

not_both : (L : List Core) (k : Key) (e : EntryFacts) → maps.get (table_of L) k ≡ Some (Held e) → IsSpoilt L k → ⊥
not_both L k e h s = let both : Some (Held e) ≡ Some Spoilt = sym h ∙ (spoilt_exactly L k).1 s in cc both

pub held_exactly : (L : List Core) (k : Key) (e : EntryFacts) → (maps.get (table_of L) k ≡ Some (Held e)) ↔ ((IsSpoilt L k → ⊥) × Says L k e)
held_exactly L k e = (
  λ h. (not_both L k e h, held_says L k e h),
  λ p. says_held L k e p.0 p.1 (maps.get (table_of L) k) refl,
)

-- ---- the table of a list

entry_is : (L : List Core) (k : Key) (o : Option EntryValue) → maps.get (table_of L) k ≡ o → IsEntryOf L k o
entry_is L k None h = (absent_exactly L k).0 h
entry_is L k (Some Spoilt) h = (spoilt_exactly L k).0 h
entry_is L k (Some (Held e)) h = (held_exactly L k e).0 h

is_entry : (L : List Core) (k : Key) (o : Option EntryValue) → IsEntryOf L k o → maps.get (table_of L) k ≡ o
is_entry L k None h = (absent_exactly L k).1 h
is_entry L k (Some Spoilt) h = (spoilt_exactly L k).1 h
is_entry L k (Some (Held e)) h = (held_exactly L k e).1 h

pub table_is : (L : List Core) → IsTableOf L (table_of L)
table_is L k = entry_is L k (maps.get (table_of L) k) refl

pub only_table : (L : List Core) (t : Contents) → IsTableOf L t → t ≡ table_of L
only_table L t h = same_table t (table_of L) (λ k. sym (is_entry L k (maps.get t k) (h k)))

-- ---- whatever the order of the fragments

-- two fragments of a key that isn't spoilt don't conflict
free_pair : (L : List Core) (k : Key) → (IsSpoilt L k → ⊥) → (f g : Core) → Contains (with_key k L) f → Contains (with_key k L) g → Conflict f g → ⊥
free_pair L k free f g a b c =
    let p = in_with_key k L f a in
    let q = in_with_key k L g b in
    free (record { one = f; other = g; has_one = p.0; has_other = q.0; of_key = p.1; disagree = record { one_key = p.1 ∙ sym q.1; conflict = c } })

same_byte : (L : List Core) (k : Key) → (IsSpoilt L k → ⊥) → (f g : Core) (i x y : ℕ) → Contains (with_key k L) f → Contains (with_key k L) g → Covers f i x → Covers g i y → x ≡ y
same_byte L k free f g i x y a b p q = elim (cases_eq x y) [
  | inl e ↦ e
  | inr apart ↦ absurd (free_pair L k free f g a b (overlap (record { place = i; byte = x; other_byte = y; covers = p; other_covers = q; differs = apart })))
]

same_end : (L : List Core) (k : Key) → (IsSpoilt L k → ⊥) → (f g : Core) (m n : ℕ) → Contains (with_key k L) f → Contains (with_key k L) g → EndsAt f m → EndsAt g n → m ≡ n
same_end L k free f g m n a b p q = elim (cases_eq m n) [
  | inl e ↦ e
  | inr apart ↦ absurd (free_pair L k free f g a b (ends m n p q apart))
]

pub byte_exactly : (L : List Core) (k : Key) (e : EntryFacts) → maps.get (table_of L) k ≡ Some (Held e) → (i x : ℕ) → (maps.get e.cover.bytes i ≡ Some x) ↔ HasByte L k i x
byte_exactly L k e h i x = (found, from)
  where
    both : (IsSpoilt L k → ⊥) × Says L k e
    both = (held_exactly L k e).0 h

    found : maps.get e.cover.bytes i ≡ Some x → HasByte L k i x
    found g =
        let w = first_byte_from (with_key k L) i x (sym (both.1.bytes i) ∙ g) in
        let own = in_with_key k L w.fragment w.has in
        record { fragment = w.fragment; has = own.0; of_key = own.1; covers = w.covers }

    from : HasByte L k i x → maps.get e.cover.bytes i ≡ Some x
    from b =
        let has = with_key_in k L b.fragment b.has b.of_key in
        let there = first_byte_there (with_key k L) b.fragment i x has b.covers in
        let w = first_byte_from (with_key k L) i there.0 there.1 in
        both.1.bytes i ∙ there.1 ∙ ap Some (same_byte L k both.0 w.fragment b.fragment i there.0 x w.has has w.covers b.covers)

pub end_exactly : (L : List Core) (k : Key) (e : EntryFacts) → maps.get (table_of L) k ≡ Some (Held e) → (n : ℕ) → (e.cover.marks.end ≡ Some n) ↔ HasEnd L k n
end_exactly L k e h n = (found, from)
  where
    both : (IsSpoilt L k → ⊥) × Says L k e
    both = (held_exactly L k e).0 h

    found : e.cover.marks.end ≡ Some n → HasEnd L k n
    found g =
        let w = first_end_from (with_key k L) n (sym (says_end L k e both.1) ∙ g) in
        let own = in_with_key k L w.fragment w.has in
        record { fragment = w.fragment; has = own.0; of_key = own.1; ends = w.ends }

    from : HasEnd L k n → e.cover.marks.end ≡ Some n
    from b =
        let has = with_key_in k L b.fragment b.has b.of_key in
        let there = first_end_there (with_key k L) b.fragment n has b.ends in
        let w = first_end_from (with_key k L) there.0 there.1 in
        says_end L k e both.1 ∙ there.1 ∙ ap Some (same_end L k both.0 w.fragment b.fragment there.0 n w.has has w.ends b.ends)

pub promise_exactly : (L : List Core) (k : Key) (e : EntryFacts) → maps.get (table_of L) k ≡ Some (Held e) → (r : ℕ) → (e.cover.marks.promise ≡ Some r) ↔ (HasPromise L k r × ((s : ℕ) → HasPromise L k s → s ≤ r))
promise_exactly L k e h r = (λ g. (found r g, λ s p. most r g s p), from)
  where
    says : Says L k e
    says = ((held_exactly L k e).0 h).1

    found : (r : ℕ) → e.cover.marks.promise ≡ Some r → HasPromise L k r
    found r g =
        let w = greatest_promise_from (with_key k L) r (sym (says_promise L k e says) ∙ g) in
        let own = in_with_key k L w.fragment w.has in
        record { fragment = w.fragment; has = own.0; of_key = own.1; promises = w.promises }

    there : (s : ℕ) → HasPromise L k s → (t : ℕ) × (e.cover.marks.promise ≡ Some t) × (s ≤ t)
    there s p =
        let w = greatest_promise_there (with_key k L) p.fragment s (with_key_in k L p.fragment p.has p.of_key) p.promises in
        (w.0, says_promise L k e says ∙ w.1, w.2)

    most : (r : ℕ) → e.cover.marks.promise ≡ Some r → (s : ℕ) → HasPromise L k s → s ≤ r
    most r g s p = let w = there s p in let same = same_Some w.0 r (sym w.1 ∙ g) in let less = w.2 in omega (arith, same, less)

    from : HasPromise L k r × ((s : ℕ) → HasPromise L k s → s ≤ r) → e.cover.marks.promise ≡ Some r
    from p =
        let w = there r p.0 in
        let less = w.2 in
        let least = p.1 w.0 (found w.0 w.1) in
        let same : w.0 ≡ r = omega (arith, less, least) in
        w.1 ∙ ap Some same
