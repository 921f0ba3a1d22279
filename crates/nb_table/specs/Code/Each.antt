-- Entries put into a map, or joined into it, one after the other.
use Rattle.std.specs.Prelude.{List, [], ◌∷◌, ◌≡◌, Option, OnSome, cond, is_some, Some, None, ◌++◌, ℕ}
use Rattle.std.specs.declared.cmp.Ordering.{Ordering}
use Rattle.std.specs.FinMap as maps
use Rattle.nb_entries.specs.Maps.{joined_onto}
use Rattle.std.specs.Borrow.{LendsSo, MutBor, Fml}
use Rattle.nb_datagram.specs.declared.key.Key.{Key}
use Rattle.nb_entries.specs.Entry.{EntryValue, join_entry}
use Rattle.nb_table.specs.Contents.{Contents, datagram_at}
use Rattle.nb_table.specs.contracts.entries.Entries.{the_row as entries_row}
use Rattle.nb_entries.specs.contracts.entry.EntryFacts.{the_row as facts_row}
use Rattle.nb_entries.specs.contracts.slot.Slot.{the_row as slot_row}
use Rattle.std.specs.List.{cons_option}
use Rattle.nb_datagram.specs.Fragment.{DatagramParts}
use Rattle.nb_entries.specs.declared.outline.Handing.{Handing}
use Rattle.nb_entries.specs.Whole.{newly, datagram_of}
use Rattle.nb_entries.specs.Change.{handed_by}
use Rattle.std.specs.Io.KnownBytes.{Appends}
use Rattle.nb_streams.specs.Counted.{CountedOf}
use Rattle.nb_streams.specs.Devices.{AppendsFront, GrowTo, ShowsWriteFault}
use Rattle.nb_streams.specs.Hexadecimal.{digits_text}

module _ {K X : Type 0} {R : K → K → Ordering} where
  -- with_each m es: the map m, and each of these entries
  abbrev pub with_each : maps.FinMap R X → List (K × X) → maps.FinMap R X
  with_each m [] = m
  with_each m (e ∷ es) = with_each (maps.insert m e.0 e.1) es

  -- joined_each f m es: each of the entries es joined into the map m in turn
  abbrev pub joined_each : (X → X → X) → maps.FinMap R X → List (K × X) → maps.FinMap R X
  joined_each f m [] = m
  joined_each f m (e ∷ es) = joined_each f (maps.insert m e.0 (joined_onto f (maps.get m e.0) e.1)) es

-- ---- what becomes of a table's entries once the loan of one of them ends

-- LendsEntry s k r: the entries behind s end as they were, but with what is written through r at the key k; and as
-- they were where nothing is lent
abbrev pub LendsEntry : MutBor Contents → Key → Option (MutBor EntryValue) → Fml
LendsEntry s k r = LendsSo entries_row (slot_row facts_row) s r (λ n w. OnSome r (n ≡ maps.insert s.now k w)) (λ n. n ≡ s.now)

-- ---- changes of a map's values, taken back

module _ {K X : Type 0} {R : K → K → Ordering} where
  -- put_back m k o: the map m with what stood at its key k before: nothing, or this in the place of what stands there
  abbrev pub put_back : maps.FinMap R X → K → Option X → maps.FinMap R X
  put_back m k None = maps.remove m k
  put_back m k (Some x) = cond (is_some (maps.get m k)) (maps.insert m k x) m

  -- taken_back m es: the map m with what stood at these keys before, the last one put back first
  abbrev pub taken_back : maps.FinMap R X → List (K × Option X) → maps.FinMap R X
  taken_back m [] = m
  taken_back m (e ∷ es) = put_back (taken_back m es) e.0 e.1

-- ---- the datagrams of the keys that become whole while entries are joined into a table

-- handed_at h t k e: the datagram of the key k, if it becomes whole where e is joined to the entry of k in the
-- table t, and is handed over
abbrev pub handed_at : Handing → Contents → Key → EntryValue → Option DatagramParts
handed_at h t k e = handed_by h (newly (datagram_at t k) (datagram_of k (joined_onto join_entry (maps.get t k) e)))

-- with_entry t k e: the table t, and e joined to the entry of its key k
abbrev pub with_entry : Contents → Key → EntryValue → Contents
with_entry t k e = maps.insert t k (joined_onto join_entry (maps.get t k) e)

-- handed h t es: what is handed over while these entries are joined into the table t one after the other
abbrev pub handed : Handing → Contents → List (Key × EntryValue) → List DatagramParts
handed h t [] = []
handed h t (e ∷ es) = cons_option (handed_at h t e.0 e.1) (handed h (with_entry t e.0 e.1) es)

-- ---- bytes whose digits are written a part at a time: some of them wait

-- Passes C old new bytes waiting: the last of the bytes wait, and the digits of those before them were written.
-- C tells what a writer holds
pub record Passes {W : Type 0} (C : W → Option (List ℕ)) (old new : CountedOf W) (bytes waiting : List ℕ) : Type 0 where
  pub gone : List ℕ
  pub whole : bytes ≡ gone ++ waiting
  pub written : Appends (C old.inner) (C new.inner) (digits_text gone)
  pub grow : GrowTo old.counts new.counts

-- Breaks C old new bytes: a front of the bytes' digits was written, and then a write came to nothing
pub record Breaks {W : Type 0} (C : W → Option (List ℕ)) (old new : CountedOf W) (bytes : List ℕ) : Type 0 where
  pub front : AppendsFront (C old.inner) (C new.inner) (digits_text bytes)
  pub grow : GrowTo old.counts new.counts
  pub why : ShowsWriteFault old.counts new.counts
