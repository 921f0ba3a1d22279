-- When an entry is whole, and the datagram that it then is (our choice).
use Rattle.std.specs.Prelude.{◌≡◌, ◌++◌, ℕ, zero, suc, ◌<◌, List, [], ◌∷◌, length, slice_get, Option, Some, None, cond}
use Rattle.std.specs.Ordering.{nat_cmp}
use Rattle.std.specs.FinMap as maps
use Rattle.nb_datagram.specs.declared.key.Key.{Key}
use Rattle.nb_datagram.specs.Fragment.{DatagramParts}
use Rattle.nb_entries.specs.Maps.{Spoilt, Held}
use Rattle.nb_entries.specs.Cover.{CoverFacts, BytesBelow, bytes_lie_below}
use Rattle.nb_entries.specs.Entry.{EntryFacts, EntryValue}
use Rattle.std.specs.Option.{option_and_then}
use Rattle.nb_entries.specs.declared.outline.Outline.{Outline}
use Rattle.nb_entries.specs.Runs.{runs_of_map}

-- a cover is whole: its end is known, and no place before it lacks a byte
pub record IsWholeCover (c : CoverFacts) : Type 0 where
  pub length : ℕ
  pub ends : c.marks.end ≡ Some length
  pub covered : (i : ℕ) → i < length → (x : ℕ) × (maps.get c.bytes i ≡ Some x)

-- an entry is whole: it isn't spoilt, and its cover is whole
abbrev pub IsWhole : EntryValue → Type 0
IsWhole Spoilt = ⊥
IsWhole (Held e) = IsWholeCover e.cover

-- the list with one more item, if there are both
abbrev pub with_last : Option (List ℕ) → Option ℕ → Option (List ℕ)
with_last None o = None
with_last (Some xs) None = None
with_last (Some xs) (Some x) = Some (xs ++ x ∷ [])

-- bytes_below m n: the bytes at the places below n, in order, if each place has one
abbrev pub bytes_below : maps.FinMap nat_cmp ℕ → ℕ → Option (List ℕ)
bytes_below m zero = Some []
bytes_below m (suc n) = with_last (bytes_below m n) (maps.get m n)

-- the bytes up to the end, if that is known and each place below it has one
abbrev pub bytes_to : maps.FinMap nat_cmp ℕ → Option ℕ → Option (List ℕ)
bytes_to m None = None
bytes_to m (Some n) = bytes_below m n

-- datagram_with k e bytes: the datagram of key k with the kind and names of e and these bytes
abbrev pub datagram_with : Key → EntryFacts → Option (List ℕ) → Option DatagramParts
datagram_with k e None = None
datagram_with k e (Some bytes) =
    Some (record { key = k; kind = e.kind; source = e.source; destination = e.destination; bytes = bytes })

-- datagram_of k e: the datagram of the entry e of key k, if it is whole
abbrev pub datagram_of : Key → EntryValue → Option DatagramParts
datagram_of k Spoilt = None
datagram_of k (Held e) = datagram_with k e (bytes_to e.cover.bytes e.cover.marks.end)

-- IsDatagram k e d: d is the datagram of key k with the kind and names of e, and with the byte of e at each
-- place up to the end
pub record IsDatagram (k : Key) (e : EntryFacts) (d : DatagramParts) : Type 0 where
  pub key : d.key ≡ k
  pub kind : d.kind ≡ e.kind
  pub source : d.source ≡ e.source
  pub destination : d.destination ≡ e.destination
  pub ends : e.cover.marks.end ≡ Some (length d.bytes)
  pub bytes : (i : ℕ) → i < length d.bytes → maps.get e.cover.bytes i ≡ slice_get d.bytes i

-- newly o p: what there is after, if there was nothing before
abbrev pub newly : {X : Type 0} → Option X → Option X → Option X
newly None after = after
newly (Some before) after = None

-- ---- what is known of a datagram, but for its bytes (our choice)

-- IsAwaited c r: r is promised, and reaches past all that is known: each place that has a byte lies below r. So data is
-- promised at the place r or after it, and none of it is known
pub record IsAwaited (c : CoverFacts) (r : ℕ) : Type 0 where
  pub promised : c.marks.promise ≡ Some r
  pub past : BytesBelow r c.bytes

-- the promise, where it reaches past all that is known: the one that `IsAwaited`
abbrev pub awaited_of : CoverFacts → Option ℕ
awaited_of c = option_and_then (λ r. cond (bytes_lie_below r c.bytes) (Some r) None) c.marks.promise

-- the kind, both names, how many places have a byte and how many runs they make up, the end, if it is known, the
-- promise, if there is one, and whether it reaches past all that is known
abbrev pub outline_of : EntryFacts → Outline
outline_of e = record {
  kind = e.kind;
  source = e.source;
  destination = e.destination;
  held = maps.len e.cover.bytes;
  runs = length (runs_of_map e.cover.bytes);
  end = e.cover.marks.end;
  promise = e.cover.marks.promise;
  awaited = awaited_of e.cover;
}

-- the same of an entry, where it isn't spoilt
abbrev pub entry_outline : EntryValue → Option Outline
entry_outline Spoilt = None
entry_outline (Held e) = Some (outline_of e)
