-- When two covers or entries are equal, as tests (our choice). Laws say that each is equality of contents.
use Rattle.std.specs.Prelude.{◌==◌, ◌&&◌, ℕ, Bool}
use Rattle.std.specs.Option.{option_eq}
use Rattle.std.specs.Cmp.Lexicographic.{pointwise}
use Rattle.std.specs.Ordering.{nat_cmp}
use Rattle.std.specs.FinMap as maps
use Rattle.nb_names.specs.Name.{name_eq}
use Rattle.nb_datagram.specs.Packet.{same_kind}
use Rattle.nb_entries.specs.Maps.{Slot}
use Rattle.nb_entries.specs.Cover.{CoverFacts, CoverValue}
use Rattle.nb_entries.specs.Entry.{EntryFacts, EntryValue}
use Rattle.nb_entries.specs.Codes.{held}
use Rattle.nb_entries.specs.Marks.{same_marks}

-- same_slot same a b: both are spoilt, or both hold facts that are the same
abbrev pub same_slot : {X : Type 0} → (X → X → Bool) → Slot X → Slot X → Bool
same_slot same a b = option_eq same (held a) (held b)

-- the two have the same bytes at the same places
abbrev pub same_bytes : maps.FinMap nat_cmp ℕ → maps.FinMap nat_cmp ℕ → Bool
same_bytes m n = pointwise (λ p q. (p.0 == q.0) && (p.1 == q.1)) (maps.entries m) (maps.entries n)

-- the two have the same bytes and the same marks
abbrev pub same_cover_facts : CoverFacts → CoverFacts → Bool
same_cover_facts a b = same_bytes a.bytes b.bytes && same_marks a.marks b.marks

-- the two covers are equal
abbrev pub same_cover : CoverValue → CoverValue → Bool
same_cover = same_slot same_cover_facts

-- the two have the same kind, names and cover
abbrev pub same_entry_facts : EntryFacts → EntryFacts → Bool
same_entry_facts a b =
    same_kind a.kind b.kind
    && (name_eq a.source b.source && (name_eq a.destination b.destination && same_cover_facts a.cover b.cover))

-- the two entries are equal
abbrev pub same_entry : EntryValue → EntryValue → Bool
same_entry = same_slot same_entry_facts
