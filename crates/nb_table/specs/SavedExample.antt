-- A table and its saved bytes, in both forms, of which no two fields are equal. A law says that these are its bytes.
use Rattle.std.specs.Prelude.{ℕ, List, [], ◌∷◌, ◌++◌, codes, Option, Some}
use Rattle.std.specs.FinMap as maps
use Rattle.nb_datagram.specs.declared.key.Key.{Key}
use Rattle.nb_datagram.specs.declared.key.Kind.TheVariants.{Group}
use Rattle.nb_datagram.specs.Key.{key_cmp}
use Rattle.nb_entries.specs.declared.slot.Slot.TheVariants.{Held}
use Rattle.nb_entries.specs.Entry.{EntryFacts}
use Rattle.nb_table.specs.Contents.{Contents}
use Rattle.nb_entries.specs.Runs.{RunValue, map_of_runs}

-- the address 10.32.33.34, the port 1,286 and the identifier 1,800
abbrev pub example_key : Key
example_key = record { ip = 10 ∷ 32 ∷ 33 ∷ 34 ∷ []; port = 1286; id = 1800 }

-- three bytes from the place 2,314 on, and one at the place 3,084
abbrev pub example_runs : List RunValue
example_runs = record { start = 2314; bytes = 97 ∷ 98 ∷ 99 ∷ [] } ∷ record { start = 3084; bytes = 100 ∷ [] } ∷ []

-- a group datagram from ABCDEFGHIJKLMNO<20> to PQRSTUVWXYZ0123<1c>.NET with these bytes, which ends at 3,598 and has
-- this promise
abbrev pub example_facts : Option ℕ → EntryFacts
example_facts promise = record {
  kind = Group;
  source = record { bytes = codes "ABCDEFGHIJKLMNO "; scope = [] };
  destination = record { bytes = codes "PQRSTUVWXYZ0123" ++ 28 ∷ []; scope = codes "NET" ∷ [] };
  cover = record { bytes = map_of_runs example_runs; marks = record { end = Some 3598; promise = promise } };
}

-- the table that has these alone
abbrev pub example_table : Option ℕ → Contents
example_table promise = maps.from_entries {R = key_cmp} ((example_key, Held (example_facts promise)) ∷ [])

-- one key, this key, that it is held, the kind, both names, the length of each label in front of it, and that the end
-- is known, and which it is
abbrev pub example_front : List ℕ
example_front =
    0 ∷ 0 ∷ 0 ∷ 1 ∷ 10 ∷ 32 ∷ 33 ∷ 34 ∷ 5 ∷ 6 ∷ 7 ∷ 8 ∷ 1 ∷ 17
    ∷ 32 ∷ (codes "EBECEDEEEFEGEHEIEJEKELEMENEOEPCA"
    ++ 0 ∷ 32 ∷ (codes "FAFBFCFDFEFFFGFHFIFJFKDADBDCDDBM"
    ++ 3 ∷ (codes "NET" ++ 0 ∷ 1 ∷ 14 ∷ 14 ∷ [])))

-- two runs: the start, the length and the bytes of each
abbrev pub example_rest : List ℕ
example_rest = 0 ∷ 2 ∷ 9 ∷ 10 ∷ 0 ∷ 3 ∷ 97 ∷ 98 ∷ 99 ∷ 12 ∷ 12 ∷ 0 ∷ 1 ∷ 100 ∷ []

-- the bytes of the table with the promise 3,341: this stands between the end and the runs
abbrev pub example_saved : List ℕ
example_saved = codes "NBT2" ++ (example_front ++ 1 ∷ 13 ∷ 13 ∷ example_rest)

-- the bytes, in the first form, of the table without a promise
abbrev pub example_saved_first : List ℕ
example_saved_first = codes "NBT1" ++ (example_front ++ example_rest)
