-- The bytes of a saved entry (our choice). Numbers stand with their high byte first, names as they are
-- spelled, with no pointer.
--   an entry: 00, where it is spoilt; else 01 · MSG_TYPE 1 · SOURCE_NAME · DESTINATION_NAME
--     · end: 00, where none is known, else 01 and the end 2
--     · promise: 00, where there is none, else 01 and the promise 2 · number of runs 2
--     · for each run, ascending: start 2 · length 2 · its bytes
-- This is the second form, which is written. The first has no promises; it is read as well.
use Rattle.std.specs.Prelude.{ℕ, List, [], ◌∷◌, ◌++◌, length, map, ◌<◌, ◌^◌}
use Rattle.std.specs.Int.{w16, to_be_bytes}
use Rattle.std.specs.List.{concat, AllByRecursion}
use Rattle.nb_datagram.specs.Packet.{type_of, name_bytes}
use Rattle.nb_entries.specs.declared.saved.SavedForm.{SavedForm}
use Rattle.nb_entries.specs.Maps.{Spoilt, Held}
use Rattle.nb_entries.specs.Cover.{CoverFacts}
use Rattle.nb_entries.specs.Entry.{EntryFacts, EntryValue}
use Rattle.nb_entries.specs.Runs.{RunValue, runs_of_map}
use Rattle.nb_names.specs.Name.{IsName}
use Rattle.nb_entries.specs.Marks.{marks_bytes, FitMarks}

-- a run: its start, how many bytes it has, and these
abbrev pub run_bytes : RunValue → List ℕ
run_bytes r = to_be_bytes w16 r.start ++ (to_be_bytes w16 (length r.bytes) ++ r.bytes)

-- the runs, how many there are in front
abbrev pub runs_bytes : List RunValue → List ℕ
runs_bytes rs = to_be_bytes w16 (length rs) ++ concat (map run_bytes rs)

-- the marks, and the maximal runs
abbrev pub cover_bytes : SavedForm → CoverFacts → List ℕ
cover_bytes form c = marks_bytes form c.marks ++ runs_bytes (runs_of_map c.bytes)

-- the kind, both names, and the cover
abbrev pub facts_bytes : SavedForm → EntryFacts → List ℕ
facts_bytes form e = type_of e.kind ∷ (name_bytes e.source ++ (name_bytes e.destination ++ cover_bytes form e.cover))

-- an entry: whether it is held, and what is
abbrev pub entry_bytes : SavedForm → EntryValue → List ℕ
entry_bytes form Spoilt = 0 ∷ []
entry_bytes form (Held e) = 1 ∷ facts_bytes form e

-- ---- What the fields of a saved entry have room for (our choice).

-- a run's start and its length have two bytes each
pub record FitsRun (r : RunValue) : Type 0 where
  pub start : r.start < 2 ^ 16
  pub size : length r.bytes < 2 ^ 16

-- so have a cover's marks and the number of its maximal runs
pub record FitsCover (c : CoverFacts) : Type 0 where
  pub marks : FitMarks c.marks
  pub count : length (runs_of_map c.bytes) < 2 ^ 16
  pub runs : AllByRecursion FitsRun (runs_of_map c.bytes)

-- both names are names
pub record IsNamed (e : EntryFacts) : Type 0 where
  pub source : IsName e.source
  pub destination : IsName e.destination

-- so are these facts' names, and their cover fits
pub record FitsFacts (e : EntryFacts) : Type 0 where
  pub named : IsNamed e
  pub cover : FitsCover e.cover
