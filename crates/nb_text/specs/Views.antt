-- The views of RDATA (our choice): what the RDATA of records of one type says, in fields, in text and in a phrase. They are
-- address entries (RFC 1002 section 4.2.13) and a node's status (4.2.18).
use Rattle.std.specs.Prelude.{ℕ, nat_lt, ◌==◌, Bool, List, [], ◌∷◌, ◌++◌, length, take, map, codes, Option, Some, None, if◌then◌else◌}
use Rattle.std.specs.Fmt.{decimal}
use Rattle.std.specs.List.{flat_map}
use Rattle.nb_streams.specs.Addresses.{address_text}
use Rattle.nb_streams.specs.Hexadecimal.{digits_text, word_text}
use Rattle.nb_names.specs.NameText.{written}
use Rattle.nb_service.specs.declared.views.AddressEntry.{AddressEntry}
use Rattle.nb_service.specs.declared.flags.TheConstants.NodeFlags.{G, DRG, CNF, ACT, PRM}
use Rattle.nb_service.specs.declared.kinds.TheConstants.{A, NB, NBSTAT}
use Rattle.nb_service.specs.declared.views.NodeName.{NodeName}
use Rattle.nb_service.specs.Header.{node_bits, ont_of}
use Rattle.nb_service.specs.Record.{ResourceData, of_bytes, of_domain}
use Rattle.nb_service.specs.Views.{StatusParts, entries_of_data, status_of_data}
use Rattle.nb_telling.specs.Telling.{Field, FieldTag, Text, Number, Digits, Set, Part, PartEnds, LineEnds}
use Rattle.nb_text.specs.declared.brief.gist.Listed.{Listed}
use Rattle.nb_text.specs.declared.brief.gist.Listed.TheVariants as items
use Rattle.nb_text.specs.Fields.{list_fields, word_field}
use Rattle.nb_text.specs.Tags.{tag_named, tag_of, name_tag}
use Rattle.nb_text.specs.Lines.{line_end}
use Rattle.nb_text.specs.Words.{Flag, flag, names_set, set_text}

-- a view: the type of its records; the fields behind those of the record, and the lines behind its line; for a phrase flags, of an
-- address or of a node's name, units of nodes, and what is listed, where a node's status is asked for or isn't
pub record View : Type 0 where
  pub kind : ℕ
  pub fields : ResourceData → List Field
  pub lines : ResourceData → List ℕ
  pub flags : ResourceData → List ℕ
  pub units : ResourceData → List (List ℕ)
  pub listed : Bool → ResourceData → List Listed

-- ---- address entries

-- an address entry, as fields
abbrev pub entry_fields : AddressEntry → List Field
entry_fields entry =
    Part (codes "    entry") ∷ word_field (tag_named "flags") entry.flags ∷ Number (tag_named "ont") (ont_of entry.flags)
    ∷ Text (tag_named "address") (address_text entry.address) ∷ LineEnds ∷ PartEnds ∷ []

-- as a line
abbrev pub entry_line : AddressEntry → List ℕ
entry_line entry =
    codes "    entry flags=" ++ (word_text entry.flags ++ (codes " ont=" ++ (decimal (ont_of entry.flags)
    ++ (codes " address=" ++ (address_text entry.address ++ line_end)))))

-- an address, as what is listed
abbrev pub address_listed : AddressEntry → Listed
address_listed entry = items.Address entry.address

-- what RDATA of type NB says
abbrev pub entries_view : View
entries_view = record {
  kind = NB;
  fields = λ rdata. list_fields (codes "entries") (flat_map entry_fields (entries_of_data rdata));
  lines = λ rdata. flat_map entry_line (entries_of_data rdata);
  flags = λ rdata. map (λ entry. entry.flags) (entries_of_data rdata);
  units = λ rdata. [];
  listed = λ status rdata. if status then [] else map address_listed (entries_of_data rdata);
}

-- ---- a node's status

-- the flags of a name, in the order in which they are shown
abbrev pub name_flags : List Flag
name_flags =
    flag (codes "G") (node_bits G) ∷ flag (codes "DRG") (node_bits DRG) ∷ flag (codes "CNF") (node_bits CNF)
    ∷ flag (codes "ACT") (node_bits ACT) ∷ flag (codes "PRM") (node_bits PRM) ∷ []

-- one of a node's names, which has no scope
abbrev pub node_name_fields : NodeName → List Field
node_name_fields name =
    Part (codes "    name") ∷ Text name_tag (written (record { bytes = name.bytes; scope = [] }))
    ∷ word_field (tag_named "flags") name.flags ∷ Number (tag_named "ont") (ont_of name.flags)
    ∷ Set (tag_named "set") (names_set name_flags name.flags) ∷ LineEnds ∷ PartEnds ∷ []

-- as a line
abbrev pub node_name_line : NodeName → List ℕ
node_name_line name =
    codes "    name " ++ (written (record { bytes = name.bytes; scope = [] }) ++ (codes " flags=" ++ (word_text name.flags
    ++ (codes " ont=" ++ (decimal (ont_of name.flags) ++ (codes " set=" ++ (set_text name_flags name.flags ++ line_end)))))))

-- a name, as what is listed
abbrev pub name_listed : NodeName → Listed
name_listed name = items.NodeName name.bytes

-- the unit identifier, with which a line of a part begins
abbrev pub unit_key : FieldTag
unit_key = tag_of (codes "unit") (codes "    unit=")

-- the unit that a node's statistics begin with, where there are as many bytes
abbrev pub unit_fields : List ℕ → List Field
unit_fields statistics =
    if nat_lt (length statistics) 6 then [] else Digits unit_key (take 6 statistics) ∷ LineEnds ∷ []

-- as a line
abbrev pub unit_line : List ℕ → List ℕ
unit_line statistics =
    if nat_lt (length statistics) 6 then [] else codes "    unit=" ++ (digits_text (take 6 statistics) ++ line_end)

-- by itself
abbrev pub unit_in : List ℕ → List (List ℕ)
unit_in statistics = if nat_lt (length statistics) 6 then [] else take 6 statistics ∷ []

-- a status, as fields
abbrev pub status_fields : StatusParts → List Field
status_fields status = list_fields (codes "names") (flat_map node_name_fields status.names) ++ unit_fields status.statistics

-- as lines
abbrev pub status_lines : StatusParts → List ℕ
status_lines status = flat_map node_name_line status.names ++ unit_line status.statistics

-- what RDATA of type NBSTAT says
abbrev pub status_view : View
status_view = record {
  kind = NBSTAT;
  fields = λ rdata. status_fields (status_of_data rdata);
  lines = λ rdata. status_lines (status_of_data rdata);
  flags = λ rdata. map (λ name. name.flags) (status_of_data rdata).names;
  units = λ rdata. unit_in (status_of_data rdata).statistics;
  listed = λ status rdata. if status then map name_listed (status_of_data rdata).names else [];
}

-- ---- the address of a host, which a phrase alone has

-- the address that data is, where it has four bytes
abbrev pub host_listed : ResourceData → List Listed
host_listed (of_bytes bytes) = if length bytes == 4 then items.Address bytes ∷ [] else []
host_listed (of_domain labels) = []

-- what RDATA of type A says
abbrev pub host_view : View
host_view = record {
  kind = A;
  fields = λ rdata. [];
  lines = λ rdata. [];
  flags = λ rdata. [];
  units = λ rdata. [];
  listed = λ status rdata. if status then [] else host_listed rdata;
}

-- ---- all views

-- a row for each type that has one
abbrev pub views : List View
views = entries_view ∷ status_view ∷ host_view ∷ []

-- by_kind rows part kind rdata: this part of the view of a type, and nothing where it has none
abbrev pub by_kind : {T : Type 0} → List View → (View → ResourceData → List T) → ℕ → ResourceData → List T
by_kind [] part kind rdata = []
by_kind (view ∷ rows) part kind rdata = if kind == view.kind then part view rdata else by_kind rows part kind rdata

-- the fields of RDATA of a type
abbrev pub fields_by : ℕ → ResourceData → List Field
fields_by = by_kind views (λ view. view.fields)

-- its lines
abbrev pub lines_by : ℕ → ResourceData → List ℕ
lines_by = by_kind views (λ view. view.lines)

-- its flags
abbrev pub flags_by : ℕ → ResourceData → List ℕ
flags_by = by_kind views (λ view. view.flags)

-- its units
abbrev pub units_by : ℕ → ResourceData → List (List ℕ)
units_by = by_kind views (λ view. view.units)

-- what is listed of it
abbrev pub listed_by : Bool → ℕ → ResourceData → List Listed
listed_by status = by_kind views (λ view. view.listed status)

-- parts_in parts found: the parts of what was found, and none where nothing was
abbrev pub parts_in : {T P : Type 0} → (T → List P) → Option T → List P
parts_in parts None = []
parts_in parts (Some found) = parts found
