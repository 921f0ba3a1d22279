-- Runs of bytes: covered places that follow one another, and the rows of runs that a map of bytes comes to
-- (our choice).
use Rattle.std.specs.Prelude.{◌==◌, ℕ, ◌+◌, ◌<◌, cond, List, [], ◌∷◌, ◌++◌, length, Option, Some, None, ◌≡◌, ◌⊎◌, ◌≤◌, map}
use Rattle.std.specs.Ordering.{nat_cmp}
use Rattle.std.specs.FinMap as maps
use Rattle.nb_entries.specs.Cover.{placed}
use Rattle.nb_entries.specs.Maps.{Spoilt, Held}
use Rattle.nb_entries.specs.Entry.{EntryValue}
use Rattle.nb_entries.specs.declared.ranges.PlaceRange.{PlaceRange}

-- a run: the place of its first byte, and its bytes in order
pub record RunValue : Type 0 where
  pub start : ℕ
  pub bytes : List ℕ

-- the place after a run's last byte
abbrev pub run_end : RunValue → ℕ
run_end r = r.start + length r.bytes

-- StartsPast n rs: the first of these runs, if there is one, starts past the place n
abbrev pub StartsPast : ℕ → List RunValue → Type 0
StartsPast n [] = Unit {0}
StartsPast n (r ∷ rs) = n < r.start

-- the runs are apart, and ascend: each has at least one byte, and the next one starts past its end, so that
-- at least one place lies between
abbrev pub AreApart : List RunValue → Type 0
AreApart [] = Unit {0}
AreApart (r ∷ rs) = (0 < length r.bytes) × (StartsPast (run_end r) rs × AreApart rs)

-- the bytes of the runs with their places, in order
abbrev pub places_of : List RunValue → List (ℕ × ℕ)
places_of [] = []
places_of (r ∷ rs) = placed r.start r.bytes ++ places_of rs

-- the map of the bytes of the runs
abbrev pub map_of_runs : List RunValue → maps.FinMap nat_cmp ℕ
map_of_runs rs = maps.from_entries (places_of rs)

-- in_front i x rs: the byte x at place i, in front of these runs: the first byte of the first of them, where
-- that starts at the place after i, else a run of its own
abbrev pub in_front : ℕ → ℕ → List RunValue → List RunValue
in_front i x [] = record { start = i; bytes = x ∷ [] } ∷ []
in_front i x (r ∷ rs) =
    cond (r.start == i + 1) (record { start = i; bytes = x ∷ r.bytes } ∷ rs) (record { start = i; bytes = x ∷ [] } ∷ r ∷ rs)

-- the runs of these bytes with their places, which ascend
abbrev pub runs_in : List (ℕ × ℕ) → List RunValue
runs_in [] = []
runs_in (e ∷ es) = in_front e.0 e.1 (runs_in es)

-- the runs of a map of bytes
abbrev pub runs_of_map : maps.FinMap nat_cmp ℕ → List RunValue
runs_of_map m = runs_in (maps.entries m)

-- ---- How many runs the covered places of an entry make up (our choice).

-- the number of maximal runs of known bytes, where the entry isn't spoilt
abbrev pub entry_run_count : EntryValue → Option ℕ
entry_run_count Spoilt = None
entry_run_count (Held e) = Some (length (runs_of_map e.cover.bytes))

-- ---- Ranges of places: the places at which a map has bytes, as those from one place up to another (our choice).

-- HasPlace r i: the range has the place i: it starts there or before, and ends after it
abbrev pub HasPlace : PlaceRange → ℕ → Type 0
HasPlace r i = (r.from ≤ i) × (i < r.to)

-- one of the ranges has the place i
abbrev pub OneHas : List PlaceRange → ℕ → Type 0
OneHas [] i = ⊥
OneHas (r ∷ rs) i = HasPlace r i ⊎ OneHas rs i

-- StartPast n rs: the first of these ranges, if there is one, starts past the place n
abbrev pub StartPast : ℕ → List PlaceRange → Type 0
StartPast n [] = Unit {0}
StartPast n (r ∷ rs) = n < r.from

-- the ranges are apart, and ascend: each has at least one place, and the next one starts past its end, so that
-- at least one place lies between that neither has
abbrev pub RangesApart : List PlaceRange → Type 0
RangesApart [] = Unit {0}
RangesApart (r ∷ rs) = (r.from < r.to) × (StartPast r.to rs × RangesApart rs)

-- AreRangesOf m rs: the ranges are those of the map m: they are apart, they have each place at which m has a byte,
-- and no other
pub record AreRangesOf (m : maps.FinMap nat_cmp ℕ) (rs : List PlaceRange) : Type 0 where
  pub apart : RangesApart rs
  pub all : (i x : ℕ) → maps.get m i ≡ Some x → OneHas rs i
  pub only : (i : ℕ) → OneHas rs i → (x : ℕ) × (maps.get m i ≡ Some x)

-- the places of a run
abbrev pub range_of : RunValue → PlaceRange
range_of r = record { from = r.start; to = run_end r }

-- the ranges of a map of bytes: the places of its runs. Laws say that these are its ranges, and the only ones
abbrev pub ranges_of_map : maps.FinMap nat_cmp ℕ → List PlaceRange
ranges_of_map m = map range_of (runs_of_map m)

-- the ranges of the places that an entry has a byte at, where it isn't spoilt; else there is none
abbrev pub entry_ranges : EntryValue → List PlaceRange
entry_ranges Spoilt = []
entry_ranges (Held e) = ranges_of_map e.cover.bytes

-- the same of an entry, where there is one
abbrev pub ranges_where : Option EntryValue → List PlaceRange
ranges_where None = []
ranges_where (Some e) = entry_ranges e
