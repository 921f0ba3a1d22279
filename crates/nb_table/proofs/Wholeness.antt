-- A key is whole exactly where it has a datagram.
use Rattle.nb_table.proofs.Common.{◌≡◌, ◌↔◌, option_and_then, Option, Some, None, refl, sym, ◌∙◌, ap, ◌<◌, ◌≤◌, ℕ, Contains, List, length, slice_get, arith, subst, Key, DatagramParts, Core, Covers, EndsAt, reach, Contents, first_byte, marks_in, table_of, Says, IsWholeAt, datagram_at, datagram_of, IsWholeCover, IsWhole, ltb-true, ltb-false, slice_get_within, get_or_from_slice_get, first_byte_from, first_end_from, absent_exactly, spoilt_exactly, held_says, says_end, first_byte_there, first_end_there, covers, in_with_key, with_key_in, Spoilt, Held, EntryFacts, EntryValue}
use Rattle.std.specs.FinMap as maps
use Rattle.nb_entries.specs.Shared.WholeLemmas.{at_found, whole_found, whole_from, datagram_from}
use Rattle.nb_datagram.specs.Pieces.{IsPart}
use Rattle.nb_entries.specs.Cover.{BytesBelow, cover_of}
use Rattle.nb_table.specs.Conflict.{BreaksPromise, Conflict, kinds, sources, destinations, overlap, ends, past_end, past_other_end, breaks, breaks_other, IsSpoilt, with_key}
use Rattle.nb_table.specs.Sender.{HasPartsAlone, IsOf, HasAll, Gives}

pub whole_at_exactly : (t : Contents) (k : Key) → IsWholeAt t k ↔ ((d : DatagramParts) × (datagram_at t k ≡ Some d))
whole_at_exactly t k = (
  λ w. let d = whole_found k w.0 w.2 in (d.0, ap (option_and_then (datagram_of k)) w.1 ∙ d.1),
  λ d. let w = at_found k (maps.get t k) d.0 d.1 in (w.0, w.1, whole_from k w.0 (d.0, w.2)),
)

-- ---- Fragments that are parts of one datagram don't conflict, and what they say together is true of it.

-- ---- parts of one datagram

-- a part that ends, ends where the datagram does
part_ends : (f : Core) (d : DatagramParts) (n : ℕ) → IsPart f d → EndsAt f n → n ≡ length d.bytes
part_ends f d n p e =
    let past : length d.bytes ≤ reach f = ltb-false (reach f) (length d.bytes) (sym p.more ∙ e.0) in
    let within = p.within in
    let here = e.1 in
    omega arith

-- two parts have one byte at a place
parts_byte : (f g : Core) (d : DatagramParts) (i x y : ℕ) → IsPart f d → IsPart g d → Covers f i x → Covers g i y → x ≡ y
parts_byte f g d i x y p q a b = let both : Some x ≡ Some y = sym (p.bytes i x a) ∙ q.bytes i y b in cc

-- what a part covers is below where another ends
parts_below : (f g : Core) (d : DatagramParts) (n : ℕ) → IsPart f d → IsPart g d → EndsAt f n → BytesBelow n (cover_of g).bytes
parts_below f g d n p q e i x c =
    let here = part_ends f d n p e in
    let inside = slice_get_within d.bytes i x (q.bytes i x (covers g i x c)) in
    omega arith

-- a part that promises reaches to a place below the end of the datagram, so that no part breaks its promise
parts_kept : (f g : Core) (d : DatagramParts) → IsPart f d → IsPart g d → BreaksPromise f g → ⊥
parts_kept f g d p q b =
    let here = part_ends f d b.end p b.ends in
    let promises = b.promises in
    let short : reach g < length d.bytes = ltb-true (reach g) (length d.bytes) (sym q.more ∙ promises.0) in
    omega (arith, here, short, promises.1, b.broken)

-- two parts don't conflict
parts_free : (f g : Core) (d : DatagramParts) → IsPart f d → IsPart g d → Conflict f g → ⊥
parts_free f g d p q (kinds h) = h (p.kind ∙ sym q.kind)
parts_free f g d p q (sources h) = h (p.source ∙ sym q.source)
parts_free f g d p q (destinations h) = h (p.destination ∙ sym q.destination)
parts_free f g d p q (overlap o) = o.differs (parts_byte f g d o.place o.byte o.other_byte p q o.covers o.other_covers)
parts_free f g d p q (ends m n a b h) = h (part_ends f d m p a ∙ sym (part_ends g d n q b))
parts_free f g d p q (past_end w) = w.past (parts_below f g d w.end p q w.ends)
parts_free f g d p q (past_other_end w) = w.past (parts_below g f d w.end q p w.ends)
parts_free f g d p q (breaks w) = parts_kept f g d p q w
parts_free f g d p q (breaks_other w) = parts_kept g f d q p w

pub parts_not_spoilt : (L : List Core) (d : DatagramParts) → HasPartsAlone L d → IsSpoilt L d.key → ⊥
parts_not_spoilt L d h s =
    parts_free s.one s.other d
    (h s.one s.has_one s.of_key)
    (h s.other s.has_other (sym s.disagree.one_key ∙ s.of_key))
    s.disagree.conflict

-- ---- a list of parts

-- the first byte at a place is the datagram's
pub byte_of_parts : (fs : List Core) (d : DatagramParts) → ((f : Core) → Contains fs f → IsPart f d) → (i x : ℕ) → first_byte fs i ≡ Some x → slice_get d.bytes i ≡ Some x
byte_of_parts fs d h i x e =
    let w = first_byte_from fs i x e in
    let part : IsPart w.fragment d = h w.fragment w.has in
    part.bytes i x w.covers

-- the first end is the datagram's
pub end_of_parts : (fs : List Core) (d : DatagramParts) → ((f : Core) → Contains fs f → IsPart f d) → (n : ℕ) → (marks_in fs).end ≡ Some n → n ≡ length d.bytes
end_of_parts fs d h n e =
    let w = first_end_from fs n e in
    part_ends w.fragment d n (h w.fragment w.has) w.ends

-- ---- A list whose fragments with a datagram's key are parts of it: what its table has at that key.

-- ---- the entry of parts

pub parts_not_spoilt_in_table : (L : List Core) (d : DatagramParts) → HasPartsAlone L d → maps.get (table_of L) d.key ≡ Some Spoilt → ⊥
parts_not_spoilt_in_table L d h e = parts_not_spoilt L d h ((spoilt_exactly L d.key).0 e)

-- the fragments with the key of d are parts of it
of_key : (L : List Core) (d : DatagramParts) → HasPartsAlone L d → (f : Core) → Contains (with_key d.key L) f → IsPart f d
of_key L d h f has = let with_it = in_with_key d.key L f has in h f with_it.0 with_it.1

-- the table holds facts at the key of d, and they are what the list says
record Holds (L : List Core) (d : DatagramParts) : Type 0 where
  facts : EntryFacts
  is : maps.get (table_of L) d.key ≡ Some (Held facts)
  says : Says L d.key facts

holds_at : (L : List Core) (d : DatagramParts) → HasPartsAlone L d → (f : Core) → IsOf L d f → (o : Option EntryValue) → maps.get (table_of L) d.key ≡ o → Holds L d
holds_at L d h f own None e = absurd ((absent_exactly L d.key).0 e f own.0 own.1)
holds_at L d h f own (Some Spoilt) e = absurd (parts_not_spoilt_in_table L d h e)
holds_at L d h f own (Some (Held a)) e = record { facts = a; is = e; says = held_says L d.key a e }

holds_parts : (L : List Core) (d : DatagramParts) → HasPartsAlone L d → (f : Core) → IsOf L d f → Holds L d
holds_parts L d h f own = holds_at L d h f own (maps.get (table_of L) d.key) refl

-- the first of the fragments, whose kind and names the facts have, is a part
first_is_part : (L : List Core) (d : DatagramParts) → HasPartsAlone L d → (f : Core) → slice_get (with_key d.key L) 0 ≡ Some f → IsPart f d
first_is_part L d h f e = of_key L d h f (0, slice_get_within (with_key d.key L) 0 f e, get_or_from_slice_get (with_key d.key L) 0 f f e)

-- ---- whole exactly where all is there

-- where the list has all of d, the facts are whole
facts_are_whole : (L : List Core) (d : DatagramParts) → HasPartsAlone L d → HasAll L d → (e : EntryFacts) → Says L d.key e → IsWholeCover e.cover
facts_are_whole L d h all e says =
    let f : Core = all.last.0 in
    let ends = first_end_there (with_key d.key L) f (reach f) (with_key_in d.key L f all.last.1.0 all.last.1.1) (all.last.2, refl) in
    let end_is = end_of_parts (with_key d.key L) d (of_key L d h) ends.0 ends.1 in
    record {
      length = ends.0;
      ends = says_end L d.key e says ∙ ends.1;
      covered = λ i below. (
          let c = all.places i (subst (λ n. i < n) end_is below) in
          let there = first_byte_there (with_key d.key L) c.0 i c.2.0 (with_key_in d.key L c.0 c.1.0 c.1.1) c.2.1 in
          (there.0, says.bytes i ∙ there.1));
    }

pub whole_where_all : (L : List Core) (d : DatagramParts) → HasPartsAlone L d → HasAll L d → IsWholeAt (table_of L) d.key
whole_where_all L d h all =
    let held = holds_parts L d h all.last.0 all.last.1 in
    (Held held.facts, held.is, facts_are_whole L d h all held.facts held.says)

-- where the facts are whole, the list has all of d
all_of_whole : (L : List Core) (d : DatagramParts) → HasPartsAlone L d → (e : EntryFacts) → Says L d.key e → IsWholeCover e.cover → HasAll L d
all_of_whole L d h e says w =
    let end = sym (says_end L d.key e says) ∙ w.ends in
    let end_is = end_of_parts (with_key d.key L) d (of_key L d h) w.length end in
    let last = first_end_from (with_key d.key L) w.length end in
    record {
      places = λ i below. (
          let x = w.covered i (subst (λ n. i < n) (sym end_is) below) in
          let from = first_byte_from (with_key d.key L) i x.0 (sym (says.bytes i) ∙ x.1) in
          (from.fragment, in_with_key d.key L from.fragment from.has, (x.0, from.covers)));
      last = (last.fragment, in_with_key d.key L last.fragment last.has, last.ends.0);
    }

all_at : (L : List Core) (d : DatagramParts) → HasPartsAlone L d → (e : EntryValue) → maps.get (table_of L) d.key ≡ Some e → IsWhole e → HasAll L d
all_at L d h Spoilt e w = absurd w
all_at L d h (Held a) e w = all_of_whole L d h a (held_says L d.key a e) w

pub all_where_whole : (L : List Core) (d : DatagramParts) → HasPartsAlone L d → IsWholeAt (table_of L) d.key → HasAll L d
all_where_whole L d h w = all_at L d h w.0 w.1 w.2

-- ---- the datagram of parts

pub gives_where_all : (L : List Core) (d : DatagramParts) → HasPartsAlone L d → HasAll L d → Gives (table_of L) d
gives_where_all L d h all =
    let held = holds_parts L d h all.last.0 all.last.1 in
    let says = held.says in
    let first : IsPart says.first d = first_is_part L d h says.first says.is_first in
    let whole = facts_are_whole L d h all held.facts says in
    let end_is = end_of_parts (with_key d.key L) d (of_key L d h) whole.length (sym (says_end L d.key held.facts says) ∙ whole.ends) in
    ap (option_and_then (datagram_of d.key)) held.is
    ∙ datagram_from d.key held.facts d (record {
      key = refl;
      kind = sym (says.kind ∙ first.kind);
      source = sym (says.source ∙ first.source);
      destination = sym (says.destination ∙ first.destination);
      ends = subst (λ n. held.facts.cover.marks.end ≡ Some n) end_is whole.ends;
      bytes = λ i below. (
          let x = whole.covered i (subst (λ n. i < n) (sym end_is) below) in
          x.1 ∙ sym (byte_of_parts (with_key d.key L) d (of_key L d h) i x.0 (sym (says.bytes i) ∙ x.1)));
    })
