-- The lines of a table's keys, as `nbt list` prints them (our choice). Keys, kinds, names and data are as the report of a
-- replay has them; numbers are decimal.
use Rattle.std.specs.Prelude.{ℕ, List, [], ◌∷◌, ◌++◌, codes, Option, None, Some}
use Rattle.std.specs.Fmt.{decimal}
use Rattle.std.specs.FinMap as maps
use Rattle.nb_names.specs.NameText.{written}
use Rattle.nb_datagram.specs.declared.key.Key.{Key}
use Rattle.nb_datagram.specs.Fragment.{DatagramParts}
use Rattle.nb_entries.specs.declared.outline.Outline.{Outline}
use Rattle.nb_entries.specs.declared.ranges.PlaceRange.{PlaceRange}
use Rattle.nb_table.specs.Contents.{Contents, outline_at, ranges_at, datagram_at}
use Rattle.nb_datagram.specs.FaultTexts.{key_text, kind_text}
use Rattle.nb_member.specs.Report.{parts_text}
use Rattle.nb_capture.specs.Capture.{line_feed}

-- how many bytes the data has, or `?`
abbrev pub end_text : Option ℕ → List ℕ
end_text None = codes "?"
end_text (Some n) = decimal n

-- the first of the places, and the one after the last
abbrev pub range_text : PlaceRange → List ℕ
range_text r = decimal r.from ++ (codes "-" ++ decimal r.to)

-- further ranges, with a comma before each
abbrev pub more_ranges_text : List PlaceRange → List ℕ
more_ranges_text [] = []
more_ranges_text (r ∷ rs) = codes "," ++ (range_text r ++ more_ranges_text rs)

-- ranges, with a comma between two, or `-` where there is none
abbrev pub ranges_text : List PlaceRange → List ℕ
ranges_text [] = codes "-"
ranges_text (r ∷ rs) = range_text r ++ more_ranges_text rs

-- the place of a promise that reaches past all that is known, where there is one
abbrev pub more_text : Option ℕ → List ℕ
more_text None = []
more_text (Some place) = codes " more " ++ decimal place

-- kind, source and destination, how many bytes are held of how many, and in how many runs
abbrev pub outline_text : Outline → List ℕ
outline_text o =
    kind_text o.kind ++ (codes " " ++ (written o.source ++ (codes " " ++ (written o.destination
    ++ (codes " " ++ (decimal o.held ++ (codes "/" ++ (end_text o.end ++ (codes " " ++ decimal o.runs)))))))))

-- these, the ranges of the known places, and where more is promised past them
abbrev pub partial_text : Outline → List PlaceRange → List ℕ
partial_text o rs = outline_text o ++ (codes " " ++ (ranges_text rs ++ more_text o.awaited))

-- what is said of a key that is held: its datagram, if it is whole, or what is known of it, or else that it is
-- spoilt
abbrev pub known_text : Option DatagramParts → Option Outline → List PlaceRange → List ℕ
known_text (Some d) o rs = codes " whole" ++ parts_text d
known_text None (Some o) rs = codes " partial " ++ partial_text o rs
known_text None None rs = codes " spoilt"

-- key_line t k: the line of a key k that the table t holds
abbrev pub key_line : Contents → Key → List ℕ
key_line t k = (key_text k ++ known_text (datagram_at t k) (outline_at t k) (ranges_at t k)) ++ line_feed ∷ []

-- key_lines t ks: the lines of such keys, in order
abbrev pub key_lines : Contents → List Key → List ℕ
key_lines t [] = []
key_lines t (k ∷ ks) = key_line t k ++ key_lines t ks

-- the lines of a table's keys, ascending
abbrev pub listing : Contents → List ℕ
listing t = key_lines t (maps.keys t)
