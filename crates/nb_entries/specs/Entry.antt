-- Entries: what is known of one datagram, that is of one key (our choice).
use Rattle.std.specs.Prelude.{◌≡◌, ◌&&◌, Bool, ℕ, true}
use Rattle.nb_names.specs.Name.{NetbiosName, name_eq}
use Rattle.nb_datagram.specs.declared.key.Kind.{Kind}
use Rattle.nb_datagram.specs.Packet.{same_kind}
use Rattle.nb_datagram.specs.Fragment.{Core}
use Rattle.nb_entries.specs.Maps.{Slot, join_slot, OnHeld, Spoilt, Held}
use Rattle.nb_entries.specs.Cover.{CoverFacts, CoversFit, covers_agree, covers_together, cover_of, AreCoverFacts, BytesBelow, bytes_lie_below}
use Rattle.nb_entries.specs.Marks.{MarksUpTo, marks_up_to}

-- the kind, both names, and the cover's facts
pub record EntryFacts : Type 0 where
  pub kind : Kind
  pub source : NetbiosName
  pub destination : NetbiosName
  pub cover : CoverFacts

-- the two don't contradict each other: one kind, the same names, and covers that don't
pub record FactsFit (a b : EntryFacts) : Type 0 where
  pub kind : a.kind ≡ b.kind
  pub source : a.source ≡ b.source
  pub destination : a.destination ≡ b.destination
  pub cover : CoversFit a.cover b.cover

-- the two don't contradict each other, as a test
abbrev pub facts_agree : EntryFacts → EntryFacts → Bool
facts_agree a b =
    same_kind a.kind b.kind
    && (name_eq a.source b.source && (name_eq a.destination b.destination && covers_agree a.cover b.cover))

-- what two that agree say together
abbrev pub facts_together : EntryFacts → EntryFacts → EntryFacts
facts_together a b = record {
  kind = a.kind;
  source = a.source;
  destination = a.destination;
  cover = covers_together a.cover b.cover;
}

-- an entry: spoilt, or what is known
abbrev pub EntryValue : Type 0
EntryValue = Slot EntryFacts

-- the join of two entries
abbrev pub join_entry : EntryValue → EntryValue → EntryValue
join_entry = join_slot facts_agree facts_together

-- all that it has lies below its end, if it has one
abbrev pub AreEntryFacts : EntryFacts → Type 0
AreEntryFacts a = AreCoverFacts a.cover

-- the entry is well formed
abbrev pub IsEntry : EntryValue → Type 0
IsEntry = OnHeld AreEntryFacts

-- what one fragment says of its datagram
abbrev pub facts_of : Core → EntryFacts
facts_of f = record {
  kind = f.kind;
  source = f.source;
  destination = f.destination;
  cover = cover_of f;
}

-- ---- Entries that reach no further than a place (our choice).

-- AreShort n e: each place that has a byte in the facts e lies below n, and their marks are at most there
pub record AreShort (n : ℕ) (e : EntryFacts) : Type 0 where
  pub below : BytesBelow n e.cover.bytes
  pub marks : MarksUpTo n e.cover.marks

-- IsShort n e: the entry e is spoilt, or its facts are short
abbrev pub IsShort : ℕ → EntryValue → Type 0
IsShort n Spoilt = Unit {0}
IsShort n (Held e) = AreShort n e

-- IsShort n e, as a test
abbrev pub is_short : ℕ → EntryValue → Bool
is_short n Spoilt = true
is_short n (Held e) = bytes_lie_below n e.cover.bytes && marks_up_to n e.cover.marks
