-- The views of RDATA, of whatever kind: their fields have their lines as text, and these are lines of parts.
use Rattle.std.proofs.Common.{◌≡◌, ℕ, zero, suc, ◌-◌, ◌*◌, ◌/◌, ◌==◌, nat_lt, nat_le, Bool, true, false, if◌then◌else◌, List, [], ◌∷◌, ◌++◌, length, take, drop, Option, Some, None, MatchOption, IfSome, refl, sym, ap, subst, arith, codes}
use Rattle.std.proofs.lemmas.Bool.Decides.{nat_tests}
use Rattle.std.specs.List.{AllByRecursion, flat_map}
use Rattle.nb_streams.specs.Places.{AreBytes}
use Rattle.nb_names.specs.DomainName.{AreByteLabels, IsDomain}
use Rattle.nb_streams.specs.Hexadecimal.{digits_text}
use Rattle.nb_service.specs.declared.views.AddressEntry.{AddressEntry}
use Rattle.nb_service.specs.declared.kinds.TheConstants.{NBSTAT}
use Rattle.nb_service.specs.declared.views.NodeName.{NodeName}
use Rattle.nb_service.specs.Record.{ResourceData, of_bytes, of_domain}
use Rattle.nb_service.specs.Views.{IsStatus, StatusParts, entries_of_data, no_status, node_name_of, parts as read_parts, status_of_data, status_of_size}
use Rattle.nb_telling.specs.Telling.{Field, Digits, LineEnds}
use Rattle.nb_text.specs.Fields.{IsPart, two, four}
use Rattle.nb_text.specs.Lines.{line_end}
use Rattle.nb_text.specs.ServiceSaid.{first}
use Rattle.nb_text.specs.Views.{View, entry_fields, entry_line, entries_view, node_name_fields, node_name_line, parts_in, unit_in, unit_key, unit_fields, unit_line, status_lines, status_view, views, by_kind, fields_by, lines_by}
use Rattle.nb_text.proofs.FieldLemmas.{address_word, bytes-take, data_seen, literal, name_set_word, word_word, written_word}
use Rattle.nb_text.proofs.MidLemmas.{AreParts, bytes-drop, ends_here, mid_seen, mid_then, no_parts, part_line, parts_all, parts_both, parts_each}
use Rattle.nb_text.proofs.RowLemmas.{row_ends}
use Rattle.nb_text.proofs.SaysLemmas.{Says, both_say, line_says, list_says, none_say, row}
use Rattle.nb_text.proofs.TellLemmas.{EndsField, ends_both, feed, space}

-- labels that stand in bytes
abbrev pub AreLabels : List (List ℕ) → Type 0
AreLabels labels = IsDomain labels × AreByteLabels labels

-- RDATA that stands in bytes
abbrev pub IsByteData : ResourceData → Type 0
IsByteData (of_bytes bytes) = AreBytes bytes
IsByteData (of_domain labels) = AreLabels labels

-- what is proved of each view
record IsShown (view : View) : Type 0 where
  says : (rdata : ResourceData) → Says 1 (view.fields rdata) (view.lines rdata)
  parts : (rdata : ResourceData) → IsByteData rdata → AreParts (view.lines rdata)

-- the row of a part that is a line, between its beginning and its ends
abbrev row_of : List Field → List Field
row_of part = take (length part - 3) (drop 1 part)

-- ---- address entries

entry_parts : (entry : AddressEntry) → AreParts (entry_line entry)
entry_parts entry =
    part_line (codes "    ") four
    ((row_ends (row_of (entry_fields entry)) refl (word_word entry.flags, (address_word entry.address, tt)) ends_here).lines
    (codes "entry") (literal (codes "entry") refl))

entries_shown : IsShown entries_view
entries_shown = record {
  says = λ rdata.
      list_says (codes "entries") entry_fields entry_line (entries_of_data rdata)
      (λ (entry : AddressEntry). line_says (codes "    entry") (entry_fields entry) _);
  parts = λ rdata h. parts_all entry_line (entries_of_data rdata) entry_parts;
}

-- ---- a node's status

abbrev IsByteNode : NodeName → Type 0
IsByteNode name = AreBytes name.bytes

node_parts : (name : NodeName) → IsByteNode name → AreParts (node_name_line name)
node_parts name h =
    part_line (codes "    ") four
    ((row_ends (row_of (node_name_fields name)) refl
    (written_word (record { bytes = name.bytes; scope = [] }) h tt, (word_word name.flags, (name_set_word name.flags, tt))) ends_here).lines
    (codes "name") (literal (codes "name") refl))

unit_says : (statistics : List ℕ) → Says 1 (unit_fields statistics) (unit_line statistics)
unit_says statistics = either (nat_lt (length statistics) 6) where
  either : (short : Bool) → Says 1 (if short then [] else Digits unit_key (take 6 statistics) ∷ LineEnds ∷ [])
      (if short then [] else codes "    unit=" ++ (digits_text (take 6 statistics) ++ line_end))
  either true = none_say
  either false = row (Digits unit_key (take 6 statistics) ∷ LineEnds ∷ []) _

unit_parts : (statistics : List ℕ) → AreBytes statistics → AreParts (unit_line statistics)
unit_parts statistics a = either (nat_lt (length statistics) 6) where
  either : (test : Bool) → AreParts (if test then [] else codes "    unit=" ++ (digits_text (take 6 statistics) ++ line_end))
  either true = no_parts
  either false =
      part_line (codes "    ") four ((mid_then (mid_seen (digits_text (take 6 statistics)) (data_seen (take 6 statistics) (bytes-take 6 statistics a))) ends_here).lines
      (codes "unit=") (literal (codes "unit=") refl))

nodes_each : (count : ℕ) (bytes : List ℕ) → AreBytes bytes → AllByRecursion IsByteNode (read_parts 18 node_name_of count bytes)
nodes_each zero bytes a = tt
nodes_each (suc count) bytes a =
    (bytes-take 16 (take 18 bytes) (bytes-take 18 bytes a), nodes_each count (drop 18 bytes) (bytes-drop 18 bytes a))

size_parts : (size : ℕ) (rest : List ℕ) → AreBytes rest → AreParts (status_lines (status_of_size size rest))
size_parts size rest a = either (nat_le size (length rest)) where
  names : List NodeName
  names = read_parts 18 node_name_of (length (take size rest) / 18) (take size rest)

  either : (test : Bool) → AreParts (status_lines (if test then record { names = names; statistics = drop size rest } else no_status))
  either true =
      parts_both (parts_each IsByteNode node_name_line names (nodes_each (length (take size rest) / 18) (take size rest) (bytes-take size rest a)) node_parts)
      (unit_parts (drop size rest) (bytes-drop size rest a))
  either false = no_parts

data_parts : (rdata : ResourceData) → IsByteData rdata → AreParts (status_lines (status_of_data rdata))
data_parts (of_bytes []) a = no_parts
data_parts (of_bytes (count ∷ rest)) a = size_parts (18 * count) rest a.1
data_parts (of_domain labels) h = no_parts

status_shown : IsShown status_view
status_shown = record {
  says = λ rdata.
      both_say (list_says (codes "names") node_name_fields node_name_line (status_of_data rdata).names
      (λ (name : NodeName). line_says (codes "    name") (node_name_fields name) _)) (unit_says (status_of_data rdata).statistics);
  parts = data_parts;
}

-- what was looked for in RDATA of kind NBSTAT: the names that a list has, and the unit
pub names_found : (bytes : List ℕ) (found : Option StatusParts) (Q : StatusParts → Type 0)
    → MatchOption found ((count : ℕ) (rest : List ℕ) → ¬ IsStatus NBSTAT bytes count rest) Q
    → IfSome found (λ status. status ≡ status_of_data (of_bytes bytes)) → parts_in (λ (s : StatusParts). s.names) found ≡ (status_of_data (of_bytes bytes)).names
names_found bytes (Some status) Q has is = ap (λ (s : StatusParts). s.names) is
names_found [] None Q has is = refl
names_found (count ∷ rest) None Q has is =
    either _ (nat_le (18 * count) (length rest)) (λ fits. has count rest (refl, refl, grind (arith, nat_tests, fits))) where
      either : (status : StatusParts) (test : Bool) → (test ≡ true → ⊥) → [] ≡ (if test then status else no_status).names
      either status true none = absurd (none refl)
      either status false none = refl

pub unit_told : (statistics unit : List ℕ) → first (unit_in statistics) ≡ Some unit → unit_fields statistics ≡ Digits unit_key unit ∷ LineEnds ∷ []
unit_told statistics unit = either (nat_lt (length statistics) 6) where
  either : (short : Bool) → first (if short then [] else take 6 statistics ∷ []) ≡ Some unit
      → (if short then [] else Digits unit_key (take 6 statistics) ∷ LineEnds ∷ []) ≡ Digits unit_key unit ∷ LineEnds ∷ []
  either true is = absurd (cc)
  either false is = let same : take 6 statistics ≡ unit = cc in ap (λ (u : List ℕ). Digits unit_key u ∷ LineEnds ∷ []) same

-- ---- all views

views_shown : AllByRecursion IsShown views
views_shown = (entries_shown, (status_shown, (record { says = λ rdata. none_say; parts = λ rdata h. no_parts }, tt)))

-- what holds of each view, and of nothing, holds of a kind's
by_each : (rdata : ResourceData) (P : List Field → List ℕ → Type 0) → P [] [] → ((view : View) → IsShown view → P (view.fields rdata) (view.lines rdata))
    → (kind : ℕ) (rows : List View) → AllByRecursion IsShown rows
    → P (by_kind rows (λ (view : View). view.fields) kind rdata) (by_kind rows (λ (view : View). view.lines) kind rdata)
by_each rdata P none each kind [] shown = none
by_each rdata P none each kind (view ∷ rows) shown = either (kind == view.kind) (by_each rdata P none each kind rows shown.1) where
  either : (test : Bool) → P (by_kind rows (λ (view : View). view.fields) kind rdata) (by_kind rows (λ (view : View). view.lines) kind rdata)
      → P (if test then view.fields rdata else by_kind rows (λ (view : View). view.fields) kind rdata)
      (if test then view.lines rdata else by_kind rows (λ (view : View). view.lines) kind rdata)
  either true rest = each view shown.0
  either false rest = rest

pub view_says : (kind : ℕ) (rdata : ResourceData) → Says 1 (fields_by kind rdata) (lines_by kind rdata)
view_says kind rdata = by_each rdata (Says 1) none_say (λ view shown. shown.says rdata) kind views views_shown

pub view_parts : (kind : ℕ) (rdata : ResourceData) → IsByteData rdata → AreParts (lines_by kind rdata)
view_parts kind rdata h = by_each rdata (λ fields lines. AreParts lines) no_parts (λ view shown. shown.parts rdata h) kind views views_shown

-- lines of parts may stand after a field
part_ends : (part : List ℕ) → IsPart part → EndsField part
part_ends _ (two line words) = space
part_ends _ (four line words) = space

each_ends : (parts : List (List ℕ)) → AllByRecursion IsPart parts → EndsField (flat_map (λ part. part ++ line_end) parts)
each_ends [] h = tt
each_ends (part ∷ parts) h =
    ends_both (part ++ line_end) (flat_map (λ part. part ++ line_end) parts) (ends_both part line_end (part_ends part h.0) feed) (each_ends parts h.1)

pub view_ends : (kind : ℕ) (rdata : ResourceData) → IsByteData rdata → EndsField (lines_by kind rdata)
view_ends kind rdata h = let lines = view_parts kind rdata h in subst EndsField (sym lines.whole) (each_ends lines.parts lines.each)
