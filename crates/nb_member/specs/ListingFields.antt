-- The fields of what a table knows of a key (our choice). Their texts are the lines of `nbt list`.
use Rattle.std.specs.Prelude.{ℕ, List, [], ◌∷◌, ◌++◌, map, codes, Option, None, Some}
use Rattle.nb_names.specs.NameText.{written}
use Rattle.nb_datagram.specs.declared.key.Key.{Key}
use Rattle.nb_datagram.specs.Fragment.{DatagramParts}
use Rattle.nb_datagram.specs.FaultTexts.{key_text, kind_text}
use Rattle.nb_entries.specs.declared.outline.Outline.{Outline}
use Rattle.nb_entries.specs.declared.ranges.PlaceRange.{PlaceRange}
use Rattle.nb_table.specs.Contents.{Contents, outline_at, ranges_at, datagram_at}
use Rattle.nb_telling.specs.Telling.{Field, Text, Number, Known, Range, Words, Begins, Ends, LineEnds}
use Rattle.nb_member.specs.Tags.{kind_tag, source_tag, destination_tag, listed_tag, state_tag, held_tag, end_tag, runs_tag, more_tag}
use Rattle.nb_member.specs.ReportFields.{parts_fields}
use Rattle.std.specs.FinMap as maps
use Rattle.nb_telling.specs.ObjectLines.{object_line}

-- a further range
abbrev pub further_range : PlaceRange → Field
further_range r = Range (codes ",") r.from r.to

-- ranges: the first of the places of each, and the one after its last
abbrev pub ranges_fields : List PlaceRange → List Field
ranges_fields [] = Words (codes " -") ∷ []
ranges_fields (r ∷ rs) = Range (codes " ") r.from r.to ∷ map further_range rs

-- the place of a promise that reaches past all that is known, where there is one
abbrev pub more_fields : Option ℕ → List Field
more_fields None = []
more_fields (Some place) = Number more_tag place ∷ []

-- places_fields rs awaited: the list of the ranges rs, and then that place
abbrev pub places_fields : List PlaceRange → Option ℕ → List Field
places_fields rs awaited = Begins (codes "places") ∷ (ranges_fields rs ++ Ends ∷ more_fields awaited)

-- kind, source and destination, how many bytes are held of how many, and in how many runs
abbrev pub outline_fields : Outline → List Field
outline_fields o =
    Text kind_tag (kind_text o.kind) ∷ Text source_tag (written o.source) ∷ Text destination_tag (written o.destination)
    ∷ Number held_tag o.held ∷ Known end_tag o.end ∷ Number runs_tag o.runs ∷ []

-- what is said of a key that is held: its datagram, if it is whole, or what is known of it, or else that it is spoilt
abbrev pub known_fields : Option DatagramParts → Option Outline → List PlaceRange → List Field
known_fields (Some d) o rs = Text state_tag (codes "whole") ∷ parts_fields d
known_fields None (Some o) rs = Text state_tag (codes "partial") ∷ (outline_fields o ++ places_fields rs o.awaited)
known_fields None None rs = Text state_tag (codes "spoilt") ∷ []

-- key_fields t k: of a key k that the table t holds
abbrev pub key_fields : Contents → Key → List Field
key_fields t k =
    Text listed_tag (key_text k) ∷ (known_fields (datagram_at t k) (outline_at t k) (ranges_at t k) ++ LineEnds ∷ [])

-- ---- the objects of a table's keys, as `nbt list --json` prints them (our choice)

-- objects of such keys, in order
abbrev pub key_objects : Contents → List Key → List ℕ
key_objects t [] = []
key_objects t (k ∷ ks) = object_line (key_fields t k) ++ key_objects t ks

-- those of all keys of a table, ascending
abbrev pub listed_objects : Contents → List ℕ
listed_objects t = key_objects t (maps.keys t)
