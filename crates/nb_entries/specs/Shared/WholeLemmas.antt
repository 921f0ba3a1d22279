-- An entry is whole exactly where it has a datagram, and which one that is.
use Rattle.std.proofs.Common.{◌≡◌, ◌↔◌, ◌<◌, ◌≤◌, ◌+◌, ◌++◌, inl, inr, ℕ, zero, suc, List, [], ◌∷◌, length, take, slice_get, get_or, option_and_then, Option, Some, None, refl, sym, ◌∙◌, ap, ap₂, subst, arith, length-append, add-one}
use Rattle.std.proofs.lemmas.Bool.{cases_lt}
use Rattle.std.proofs.lemmas.List.{take_more, take_all}
use Rattle.std.proofs.lemmas.Option.{same_Some, slice_get-get_or}
use Rattle.std.specs.Ordering.{nat_cmp}
use Rattle.std.specs.FinMap as maps
use Rattle.nb_datagram.specs.declared.key.Key.{Key}
use Rattle.nb_datagram.specs.Fragment.{DatagramParts}
use Rattle.nb_entries.specs.Maps.{Spoilt, Held}
use Rattle.nb_entries.specs.Cover.{CoverFacts}
use Rattle.nb_entries.specs.Code.CoverFacts.{AreCovered}
use Rattle.nb_entries.specs.Entry.{EntryFacts, EntryValue}
use Rattle.nb_entries.specs.Whole.{IsWholeCover, IsWhole, newly, with_last, bytes_below, bytes_to, datagram_with, datagram_of, IsDatagram}

-- ---- the bytes below a place

pub slice_get-front : (xs ys : List ℕ) (i : ℕ) → i < length xs → slice_get (xs ++ ys) i ≡ slice_get xs i
slice_get-front [] ys i h = absurd (omega arith)
slice_get-front (x ∷ xs) ys zero h = refl
slice_get-front (x ∷ xs) ys (suc i) h = slice_get-front xs ys i (omega arith)

pub slice_get-seam : (xs : List ℕ) (y : ℕ) → slice_get (xs ++ y ∷ []) (length xs) ≡ Some y
slice_get-seam [] y = refl
slice_get-seam (x ∷ xs) y = slice_get-seam xs y

-- the bytes below n are those of the list
pub record AreBelow (m : maps.FinMap nat_cmp ℕ) (n : ℕ) (xs : List ℕ) : Type 0 where
  pub count : length xs ≡ n
  pub each : (i : ℕ) → i < n → maps.get m i ≡ slice_get xs i

last_found : (o : Option (List ℕ)) (p : Option ℕ) (xs : List ℕ) → with_last o p ≡ Some xs → (ys : List ℕ) × (y : ℕ) × (o ≡ Some ys) × (p ≡ Some y) × (xs ≡ ys ++ y ∷ [])
last_found None p xs h = absurd (cc)
last_found (Some ys) None xs h = absurd (cc)
last_found (Some ys) (Some y) xs h = (ys, y, refl, refl, cc)

pub below_found : (m : maps.FinMap nat_cmp ℕ) (n : ℕ) (xs : List ℕ) → bytes_below m n ≡ Some xs → AreBelow m n xs
below_found m zero xs h = let empty : [] ≡ xs = cc in record { count = ap length (sym empty); each = λ i f. absurd (omega arith) }
below_found m (suc n) xs h =
    let w = last_found (bytes_below m n) (maps.get m n) xs h in
    let r = below_found m n w.0 w.2 in
    record {
      count = ap length w.4 ∙ length-append w.0 (w.1 ∷ []) ∙ ap (λ k. k + 1) r.count ∙ add-one n;
      each = λ i f. each w.0 w.1 w.4 r.count w.3 r.each i f;
    }
  where
    each : (ys : List ℕ) (y : ℕ) → xs ≡ ys ++ y ∷ [] → length ys ≡ n → maps.get m n ≡ Some y → ((i : ℕ) → i < n → maps.get m i ≡ slice_get ys i) → (i : ℕ) → i < suc n → maps.get m i ≡ slice_get xs i
    each ys y e c g rec i f = elim (cases_lt i n) [
      | inl below ↦
          rec i below
          ∙ sym (slice_get-front ys (y ∷ []) i (omega (arith, below, c)))
          ∙ ap (λ zs. slice_get zs i) (sym e)
      | inr above ↦
          let last : i ≡ length ys = omega (arith, above, f, c) in
          let same : i ≡ n = last ∙ c in
          ap (maps.get m) same ∙ g
          ∙ sym (slice_get-seam ys y)
          ∙ ap (slice_get (ys ++ y ∷ [])) (sym last)
          ∙ ap (λ zs. slice_get zs i) (sym e)
    ]

-- where each place below n has the byte of the list, the bytes below n are its first n
pub below_from : (m : maps.FinMap nat_cmp ℕ) (xs : List ℕ) (n : ℕ) → n ≤ length xs → ((i : ℕ) → i < n → maps.get m i ≡ slice_get xs i) → bytes_below m n ≡ Some (take n xs)
below_from m xs zero h each = refl
below_from m xs (suc n) h each =
    let inside : n < length xs = omega (arith, h) in
    ap₂ with_last (below_from m xs n (omega (arith, h)) (λ i f. each i (omega (arith, f)))) (each n (omega arith) ∙ slice_get-get_or xs n 0 inside)
    ∙ ap Some (sym (take_more xs n 0 inside) ∙ ap (λ k. take k xs) (add-one n))

-- where each place below n has a byte, there are the bytes below n
pub below_covered : (m : maps.FinMap nat_cmp ℕ) (n : ℕ) → ((i : ℕ) → i < n → (x : ℕ) × (maps.get m i ≡ Some x)) → (xs : List ℕ) × (bytes_below m n ≡ Some xs)
below_covered m zero each = ([], refl)
below_covered m (suc n) each =
    let rest = below_covered m n (λ i f. each i (omega (arith, f))) in
    let last = each n (omega arith) in
    (rest.0 ++ last.0 ∷ [], ap₂ with_last rest.1 last.1)

no_last : (o : Option (List ℕ)) → with_last o None ≡ None
no_last None = refl
no_last (Some xs) = refl

-- where a place below n has no byte, there are no bytes below n
pub below_none : (m : maps.FinMap nat_cmp ℕ) (n i : ℕ) → i < n → maps.get m i ≡ None → bytes_below m n ≡ None
below_none m zero i h e = absurd (omega arith)
below_none m (suc n) i h e = elim (cases_lt i n) [
  | inl below ↦ ap (λ o. with_last o (maps.get m n)) (below_none m n i below e)
  | inr above ↦
      let last : n ≡ i = omega (arith, above, h) in
      ap (with_last (bytes_below m n)) (ap (maps.get m) last ∙ e) ∙ no_last (bytes_below m n)
]

-- one more byte
pub below_more : (m : maps.FinMap nat_cmp ℕ) (n : ℕ) (xs : List ℕ) (x : ℕ) → bytes_below m n ≡ Some xs → maps.get m n ≡ Some x → bytes_below m (n + 1) ≡ Some (xs ++ x ∷ [])
below_more m n xs x e f = ap (bytes_below m) (add-one n) ∙ ap₂ with_last e f

-- ---- the datagram of an entry

pub with_found : (k : Key) (e : EntryFacts) (o : Option (List ℕ)) (d : DatagramParts) → datagram_with k e o ≡ Some d → (xs : List ℕ) × (o ≡ Some xs) × (d ≡ record { key = k; kind = e.kind; source = e.source; destination = e.destination; bytes = xs })
with_found k e None d h = absurd (cc)
with_found k e (Some xs) d h = (xs, refl, cc)

to_found : (m : maps.FinMap nat_cmp ℕ) (end : Option ℕ) (xs : List ℕ) → bytes_to m end ≡ Some xs → (n : ℕ) × (end ≡ Some n) × (bytes_below m n ≡ Some xs)
to_found m None xs h = absurd (cc)
to_found m (Some n) xs h = (n, refl, h)

pub datagram_found : (k : Key) (e : EntryFacts) (d : DatagramParts) → datagram_of k (Held e) ≡ Some d → IsDatagram k e d
datagram_found k e d h =
    let w = with_found k e (bytes_to e.cover.bytes e.cover.marks.end) d h in
    let t = to_found e.cover.bytes e.cover.marks.end w.0 w.1 in
    let b = below_found e.cover.bytes t.0 w.0 t.2 in
    let same : d.bytes ≡ w.0 = ap (λ (d : DatagramParts). d.bytes) w.2 in
    let long : length d.bytes ≡ t.0 = ap length same ∙ b.count in
    record {
      key = ap (λ (d : DatagramParts). d.key) w.2;
      kind = ap (λ (d : DatagramParts). d.kind) w.2;
      source = ap (λ (d : DatagramParts). d.source) w.2;
      destination = ap (λ (d : DatagramParts). d.destination) w.2;
      ends = t.1 ∙ ap Some (sym long);
      bytes = λ i f. b.each i (omega (arith, long, f)) ∙ ap (λ zs. slice_get zs i) (sym same);
    }

pub datagram_from : (k : Key) (e : EntryFacts) (d : DatagramParts) → IsDatagram k e d → datagram_of k (Held e) ≡ Some d
datagram_from k e d h =
    ap (datagram_with k e) (ap (bytes_to e.cover.bytes) h.ends ∙ below_from e.cover.bytes d.bytes (length d.bytes) (omega arith) h.bytes ∙ ap Some (take_all (length d.bytes) d.bytes (omega arith)))
    ∙ ap Some (λ i. record { key = sym h.key i; kind = sym h.kind i; source = sym h.source i; destination = sym h.destination i; bytes = d.bytes })

pub datagram_exactly : (k : Key) (e : EntryFacts) (d : DatagramParts) → (datagram_of k (Held e) ≡ Some d) ↔ IsDatagram k e d
datagram_exactly k e d = (datagram_found k e d, datagram_from k e d)

pub whole_from : (k : Key) (e : EntryValue) → (d : DatagramParts) × (datagram_of k e ≡ Some d) → IsWhole e
whole_from k Spoilt h = let w = h.1 in absurd (cc)
whole_from k (Held e) h =
    let d = h.0 in let r = datagram_found k e d h.1 in
    record {
      length = length d.bytes;
      ends = r.ends;
      covered = λ i f. (get_or d.bytes i 0, r.bytes i f ∙ slice_get-get_or d.bytes i 0 f);
    }

pub whole_found : (k : Key) (e : EntryValue) → IsWhole e → (d : DatagramParts) × (datagram_of k e ≡ Some d)
whole_found k Spoilt h = absurd h
whole_found k (Held e) h =
    let b = below_covered e.cover.bytes h.length h.covered in (
      record { key = k; kind = e.kind; source = e.source; destination = e.destination; bytes = b.0 },
      ap (datagram_with k e) (ap (bytes_to e.cover.bytes) h.ends ∙ b.1),
    )

pub whole_exactly : (k : Key) (e : EntryValue) → IsWhole e ↔ ((d : DatagramParts) × (datagram_of k e ≡ Some d))
whole_exactly k e = (whole_found k e, whole_from k e)

-- ---- what is newly whole

pub at_found : (k : Key) (o : Option EntryValue) (d : DatagramParts) → option_and_then (datagram_of k) o ≡ Some d → (e : EntryValue) × (o ≡ Some e) × (datagram_of k e ≡ Some d)
at_found k None d h = absurd (cc)
at_found k (Some e) d h = (e, refl, h)

-- what was there isn't new, and where nothing is there nothing is new
pub newly_same : {D : Type 0} (o : Option D) → newly o o ≡ None
newly_same None = refl
newly_same (Some d) = refl

pub newly_none : {D : Type 0} (o : Option D) → newly o None ≡ None
newly_none None = refl
newly_none (Some d) = refl

-- ---- covers whose end is known

-- a cover that ends is whole where each place below its end is covered
pub whole_below_end : (c : CoverFacts) (look : ℕ → Option ℕ) → ((q : ℕ) → maps.get c.bytes q ≡ look q) → (n : ℕ) → c.marks.end ≡ Some n → (AreCovered look n → IsWholeCover c) × (IsWholeCover c → AreCovered look n)
whole_below_end c look same n ends = (
  λ all. record { length = n; ends = ends; covered = λ i h. (let w = all i h in (w.0, same i ∙ w.1)) },
  λ w i h. (let one : w.length ≡ n = same_Some w.length n (sym w.ends ∙ ends) in let x = w.covered i (subst (λ m. i < m) (sym one) h) in (x.0, sym (same i) ∙ x.1)),
)

-- an entry that was whole isn't newly whole, and one that wasn't is so wherever it is whole
pub newly_never : (k : Key) (e : EntryValue) (o : Option DatagramParts) → IsWhole e → None ≡ newly (datagram_of k e) o
newly_never k e o w = let d = (whole_exactly k e).0 w in sym (ap (λ a. newly a o) d.1)

pub newly_always : (k : Key) (e : EntryValue) (o p : Option DatagramParts) → (IsWhole e → ⊥) → o ≡ p → o ≡ newly (datagram_of k e) p
newly_always k e o p n same = same ∙ step (datagram_of k e) refl
  where
    step : (a : Option DatagramParts) → datagram_of k e ≡ a → p ≡ newly a p
    step None h = refl
    step (Some d) h = absurd (n ((whole_exactly k e).1 (d, h)))
