-- The bytes of a saved table (our choice). Numbers stand with their high byte first.
--   magic 4 · number of keys 4 · for each key, ascending: SOURCE_IP 4, SOURCE_PORT 2, DGM_ID 2, and its entry
-- This is the second form, which is written. The first has another magic; it is read as well.
use Rattle.std.specs.Prelude.{◌≡◌, ◌⊎◌, ℕ, List, [], ◌∷◌, ◌++◌, map, None, Some, ◌<◌, ◌^◌, ◌≤◌, suc, zero, length, Option, Err, Ok}
use Rattle.std.specs.Int.{w16, w32, to_be_bytes}
use Rattle.std.specs.List.{concat}
use Rattle.std.specs.FinMap as maps
use Rattle.nb_datagram.specs.declared.key.Key.{Key}
use Rattle.nb_entries.specs.declared.saved.SavedForm.{SavedForm}
use Rattle.nb_entries.specs.declared.saved.SavedForm.TheVariants.{First, Second}
use Rattle.nb_entries.specs.declared.slot.Slot.TheVariants.{Held}
use Rattle.nb_entries.specs.Entry.{EntryFacts, EntryValue}
use Rattle.nb_table.specs.Contents.{Contents}
use Rattle.nb_entries.specs.Saved.{entry_bytes, FitsFacts}
use Rattle.nb_datagram.specs.Header.{IsKey}
use Rattle.nb_entries.specs.Maps.{OnHeld}
use Rattle.std.specs.declared.cmp.Ordering.TheVariants.{Less}
use Rattle.nb_streams.specs.Places.{StandsAt, NumberAt}
use Rattle.nb_datagram.specs.Key.{key_cmp}
use Rattle.nb_entries.specs.declared.saved.LoadFault.TheVariants.{BadMagic, TooLong, FullSource, Full, NoMemory}
use Rattle.nb_entries.specs.SavedReading.{Field, Gives, Judged, Outcome, Then, entry_at}
use Rattle.nb_entries.specs.declared.saved.LoadFault.{LoadFault}
use Rattle.nb_table.specs.Limits.{FewOfEach, Limits}
use Rattle.nb_table.specs.Merging.{AllShort}

-- what a saved table of each form begins with: "NBT1" and "NBT2"
abbrev pub magic : SavedForm → List ℕ
magic First = 78 ∷ 66 ∷ 84 ∷ 49 ∷ []
magic Second = 78 ∷ 66 ∷ 84 ∷ 50 ∷ []

-- a key
abbrev pub key_bytes : Key → List ℕ
key_bytes k = k.ip ++ (to_be_bytes w16 k.port ++ to_be_bytes w16 k.id)

-- a key and its entry
abbrev pub keyed_bytes : SavedForm → Key × EntryValue → List ℕ
keyed_bytes form e = key_bytes e.0 ++ entry_bytes form e.1

-- keys and their entries, one after the other
abbrev pub entries_bytes : SavedForm → List (Key × EntryValue) → List ℕ
entries_bytes form es = concat (map (keyed_bytes form) es)

-- the bytes of a saved table, in this form
abbrev pub saved_as : SavedForm → Contents → List ℕ
saved_as form t = magic form ++ (to_be_bytes w32 (maps.len t) ++ entries_bytes form (maps.entries t))

-- the bytes of a saved table
abbrev pub saved : Contents → List ℕ
saved = saved_as Second

-- the bytes of a table saved in the first form
abbrev pub saved_first : Contents → List ℕ
saved_first = saved_as First

-- no entry of the table has a promise
abbrev pub HasNoPromise : Contents → Type 0
HasNoPromise t = (k : Key) (e : EntryFacts) → maps.get t k ≡ Some (Held e) → e.cover.marks.promise ≡ None

-- the input is the bytes of the table t, saved; in the first form only where it has no promise
abbrev pub IsSaved : List ℕ → Contents → Type 0
IsSaved input t = (input ≡ saved t) ⊎ ((input ≡ saved_first t) × HasNoPromise t)

-- ---- what the fields of a saved table have room for (our choice)

-- FitsKeyed k e: the key k is one, and its entry e is spoilt or fits
pub record FitsKeyed (k : Key) (e : EntryValue) : Type 0 where
  pub key : IsKey k
  pub entry : OnHeld FitsFacts e

-- the fields of a saved table have room for this one: the number of keys has four bytes, and each key
-- fits with its entry
pub record FitsSaved (t : Contents) : Type 0 where
  pub count : maps.len t < 2 ^ 32
  pub each : (k : Key) (e : EntryValue) → maps.get t k ≡ Some e → FitsKeyed k e

-- ---- what stands in bytes that may be a saved table, key by key, and the first fault (our choice)
-- Offsets count from the first byte. A field is judged before the next one is asked for.

-- a key stands there, with values of its fields' types
pub record KeyAt (input : List ℕ) (at : ℕ) (key : Key) : Type 0 where
  pub fits : IsKey key
  pub stands : StandsAt input at (key_bytes key)

-- the key is greater than the one before, if there is one
abbrev pub IsAfter : Option Key → Key → Type 0
IsAfter None key = Unit {0}
IsAfter (Some before) key = key_cmp before key ≡ Less

-- a key, greater than that of the entry before: one field of eight bytes
abbrev pub key_at : List ℕ → Option Key → ℕ → Outcome Key → Type 0
key_at input before at = Then (Field input at 8 (KeyAt input at)) (Judged at (IsAfter before))

-- entries_at form input count before at: this many keys, ascending, with their entries
abbrev pub entries_at : SavedForm → List ℕ → ℕ → Option Key → ℕ → Outcome (List (Key × EntryValue)) → Type 0
entries_at form input zero before at = Gives [] at
entries_at form input (suc count) before at =
    Then (key_at input before at) (λ key after_key.
    Then (entry_at form input after_key) (λ entry next.
    Then (entries_at form input count (Some key) next) (λ entries.
    Gives ((key, entry) ∷ entries))))

-- ---- the whole input

-- how many keys there are, these, and nothing after them
abbrev pub table_at : SavedForm → List ℕ → ℕ → Outcome (List (Key × EntryValue)) → Type 0
table_at form input at =
    Then (Field input at 4 (NumberAt input at w32)) (λ count next.
    Then (entries_at form input count None next) (λ entries last.
    Judged last (λ all. length input ≤ last) entries last))

-- IsRead input o: what stands in this input: the keys with their entries, or the first fault
pub data IsRead (input : List ℕ) : Outcome (List (Key × EntryValue)) → Type 0 where
  no_magic : ((form : SavedForm) → ¬ StandsAt input 0 (magic form)) → IsRead input (Err BadMagic)
  after_magic : {o : Outcome (List (Key × EntryValue))} (form : SavedForm) → StandsAt input 0 (magic form)
      → table_at form input 4 o → IsRead input o

-- ---- why an input isn't loaded as a table (our choice)
-- What stands in it is judged first, whatever the limits; then each entry's length, then the number of keys of each
-- address, then that of all keys, and memory last.

-- IsReadAs input t: what stands in the input is the table t
pub record IsReadAs (input : List ℕ) (t : Contents) : Type 0 where
  pub entries : List (Key × EntryValue)
  pub last : ℕ
  pub read : IsRead input (Ok (entries, last))
  pub same : t ≡ maps.from_entries {R = key_cmp} entries

-- LoadFails input limits fault: a table with these limits isn't loaded from the input, for this reason; but for
-- the first, only where a table stands in it
pub data LoadFails (input : List ℕ) (limits : Limits) : LoadFault → Type 0 where
  ill_formed : {fault : LoadFault} → IsRead input (Err fault) → LoadFails input limits fault
  too_long : (t : Contents) → IsReadAs input t → ¬ AllShort limits.longest t → LoadFails input limits TooLong
  full_source : (t : Contents) → IsReadAs input t → AllShort limits.longest t → ¬ FewOfEach limits.per_source t
      → LoadFails input limits FullSource
  full : (t : Contents) → IsReadAs input t → AllShort limits.longest t → FewOfEach limits.per_source t
      → limits.keys < maps.len t → LoadFails input limits Full
  no_memory : (t : Contents) → IsReadAs input t → AllShort limits.longest t → FewOfEach limits.per_source t
      → maps.len t ≤ limits.keys → LoadFails input limits NoMemory
