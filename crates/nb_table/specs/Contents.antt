-- What a list of fragments says of each key (our choice): `IsTableOf` says what a list's table is, and `table_of`
-- is that table. Places count from the first byte of a datagram's data.
use Rattle.std.specs.Prelude.{◌≡◌, ◌≢◌, ◌++◌, ℕ, Contains, cond, List, [], ◌∷◌, map, slice_get, Option, Some, None, option_and_then}
use Rattle.std.specs.FinMap as maps
use Rattle.nb_datagram.specs.declared.key.Key.{Key}
use Rattle.nb_datagram.specs.Key.{key_cmp}
use Rattle.nb_datagram.specs.Fragment.{Core, Covers, EndsAt, byte_of, DatagramParts}
use Rattle.nb_entries.specs.Maps.{first_of, at_keys}
use Rattle.nb_entries.specs.declared.cover.marks.Marks.{Marks}
use Rattle.nb_entries.specs.Marks.{Promises, no_marks, marks_of, marks_together}
use Rattle.nb_entries.specs.Cover.{CoverFacts, placed}
use Rattle.nb_entries.specs.declared.slot.Slot.TheVariants.{Spoilt, Held}
use Rattle.nb_entries.specs.Entry.{EntryFacts, EntryValue}
use Rattle.nb_table.specs.Conflict.{IsSpoilt, with_key, some_conflict}
use Rattle.nb_entries.specs.Whole.{IsWhole, datagram_of, newly, entry_outline}
use Rattle.nb_entries.specs.Runs.{entry_run_count, ranges_where}
use Rattle.nb_entries.specs.declared.ranges.PlaceRange.{PlaceRange}
use Rattle.nb_entries.specs.declared.outline.Outline.{Outline}

-- first_byte fs i: the byte at place i of the first of these fragments that covers it
abbrev pub first_byte : List Core → ℕ → Option ℕ
first_byte [] i = None
first_byte (f ∷ fs) i = first_of (byte_of f i) (first_byte fs i)

-- what these fragments mark together: the end of the first that ends, and the greatest promise
abbrev pub marks_in : List Core → Marks
marks_in [] = no_marks
marks_in (f ∷ fs) = marks_together (marks_of f) (marks_in fs)

-- byte_at L k i: what the earliest fragment of the key k in L that covers place i has there
abbrev pub byte_at : List Core → Key → ℕ → Option ℕ
byte_at L k i = first_byte (with_key k L) i

-- end_of L k: where the earliest fragment of the key k in L that ends does so
abbrev pub end_of : List Core → Key → Option ℕ
end_of L k = (marks_in (with_key k L)).end

-- promise_of L k: the greatest of all places that the fragments of the key k in L promise
abbrev pub promise_of : List Core → Key → Option ℕ
promise_of L k = (marks_in (with_key k L)).promise

-- Says L k e: these facts are what L says of key k: the kind and names of its first fragment with that
-- key, the byte at each place, and its marks: the end and the promise
pub record Says (L : List Core) (k : Key) (e : EntryFacts) : Type 0 where
  pub first : Core
  pub is_first : slice_get (with_key k L) 0 ≡ Some first
  pub kind : e.kind ≡ first.kind
  pub source : e.source ≡ first.source
  pub destination : e.destination ≡ first.destination
  pub bytes : (i : ℕ) → maps.get e.cover.bytes i ≡ byte_at L k i
  pub marks : e.cover.marks ≡ marks_in (with_key k L)

-- a table: an entry for each key that it has
abbrev pub Contents : Type 0
Contents = maps.FinMap key_cmp EntryValue

-- IsEntryOf L k o: o is what L says of key k: nothing, if no fragment has the key; Spoilt, if two of its
-- fragments disagree; else what its fragments say
abbrev pub IsEntryOf : List Core → Key → Option EntryValue → Type 0
IsEntryOf L k None = (f : Core) → Contains L f → f.key ≢ k
IsEntryOf L k (Some Spoilt) = IsSpoilt L k
IsEntryOf L k (Some (Held e)) = (IsSpoilt L k → ⊥) × Says L k e

-- IsTableOf L t: t has at each key what L says of it
abbrev pub IsTableOf : List Core → Contents → Type 0
IsTableOf L t = (k : Key) → IsEntryOf L k (maps.get t k)

-- HasByte L k i x: some fragment of L with key k has the byte x at place i
pub record HasByte (L : List Core) (k : Key) (i x : ℕ) : Type 0 where
  pub fragment : Core
  pub has : Contains L fragment
  pub of_key : fragment.key ≡ k
  pub covers : Covers fragment i x

-- HasEnd L k n: some fragment of L with key k ends at n
pub record HasEnd (L : List Core) (k : Key) (n : ℕ) : Type 0 where
  pub fragment : Core
  pub has : Contains L fragment
  pub of_key : fragment.key ≡ k
  pub ends : EndsAt fragment n

-- HasPromise L k r: some fragment of L with key k promises a byte at the place r or after it
pub record HasPromise (L : List Core) (k : Key) (r : ℕ) : Type 0 where
  pub fragment : Core
  pub has : Contains L fragment
  pub of_key : fragment.key ≡ k
  pub promises : Promises fragment r

-- ---- the table of a list, as a value

-- the bytes of these fragments with their places, one fragment after the other
abbrev pub all_placed : List Core → List (ℕ × ℕ)
all_placed [] = []
all_placed (f ∷ fs) = placed f.offset f.bytes ++ all_placed fs

-- the finite map of the first byte at each place, and the marks
abbrev pub cover_in : List Core → CoverFacts
cover_in fs = record { bytes = maps.from_entries (all_placed fs); marks = marks_in fs }

-- facts_in f fs: the kind and names of f, and the cover of fs
abbrev pub facts_in : Core → List Core → EntryFacts
facts_in f fs = record {
  kind = f.kind;
  source = f.source;
  destination = f.destination;
  cover = cover_in fs;
}

-- the entry of these fragments of one key: spoilt where two of them conflict, else the kind and names
-- of the first with the cover of all
abbrev pub entry_in : List Core → Option EntryValue
entry_in [] = None
entry_in (f ∷ fs) = Some (cond (some_conflict (f ∷ fs)) Spoilt (Held (facts_in f (f ∷ fs))))

-- entry_at L k: what L says of key k, if a fragment has it
abbrev pub entry_at : List Core → Key → Option EntryValue
entry_at L k = entry_in (with_key k L)

-- the table of a list: an entry for each key that one of its fragments has
abbrev pub table_of : List Core → Contents
table_of L = at_keys (entry_at L) (map (λ f. f.key) L)

-- ---- which keys a table has whole, and their datagrams (our choice)

-- IsWholeAt t k: the table t has the key k whole
abbrev pub IsWholeAt : Contents → Key → Type 0
IsWholeAt t k = (e : EntryValue) × (maps.get t k ≡ Some e) × IsWhole e

-- datagram_at t k: the datagram of key k, if the table has it whole
abbrev pub datagram_at : Contents → Key → Option DatagramParts
datagram_at t k = option_and_then (datagram_of k) (maps.get t k)

-- newly_whole before after k: the datagram of key k, if it is whole in the table after, and wasn't in the
-- one before
abbrev pub newly_whole : Contents → Contents → Key → Option DatagramParts
newly_whole before after k = newly (datagram_at before k) (datagram_at after k)

-- ---- how many runs the covered places of a key make up (our choice)

-- that number of a key, where it is held
abbrev pub run_count_at : Contents → Key → Option ℕ
run_count_at t k = option_and_then entry_run_count (maps.get t k)

-- ---- the places at which a table knows bytes of a key (our choice)

-- ranges_at t k: the same of the key k, where the table t holds it
abbrev pub ranges_at : Contents → Key → List PlaceRange
ranges_at t k = ranges_where (maps.get t k)

-- ---- what a table knows of a key's datagram, but for its bytes (our choice)

-- outline_at t k: the same of the key k, where the table t holds it
abbrev pub outline_at : Contents → Key → Option Outline
outline_at t k = option_and_then entry_outline (maps.get t k)
