-- Fields as text.
use Rattle.std.specs.Prelude.{ℕ, List, [], ◌∷◌, ◌++◌, codes, Option, Some, None, if◌then◌else◌}
use Rattle.std.specs.Fmt.{decimal}
use Rattle.std.specs.List.{flat_map}
use Rattle.nb_streams.specs.Hexadecimal.{data_text, digits_text}
use Rattle.nb_telling.specs.Telling.{Field, Text, Number, Digits, Data, Set, Known, Range, Words, At, Begins, Ends, Part, PartEnds, LineEnds}
use Rattle.nb_telling.specs.declared.sink.Flag.{Flag}

-- ---- sets as text (our choice)

-- each name after a `+`
abbrev pub added_names : List (List ℕ) → List ℕ
added_names = flat_map (λ name. codes "+" ++ name)

-- names with `+` between them, or `none` where there is none
abbrev pub joined : List (List ℕ) → List ℕ
joined [] = codes "none"
joined (name ∷ names) = name ++ added_names names

-- the names of the flags that are set
abbrev pub names_of : List Flag → List (List ℕ)
names_of [] = []
names_of (f ∷ flags) = if f.is_set then f.name.now ∷ names_of flags else names_of flags

-- a number, or `?` where it isn't known
abbrev pub known_text : Option ℕ → List ℕ
known_text None = codes "?"
known_text (Some n) = decimal n

-- the text of a field
abbrev pub field_text : Field → List ℕ
field_text (Text tag text) = tag.lead ++ text
field_text (Number tag n) = tag.lead ++ decimal n
field_text (Digits tag bytes) = tag.lead ++ digits_text bytes
field_text (Data tag bytes) = tag.lead ++ data_text bytes
field_text (Set tag names) = tag.lead ++ joined names
field_text (Known tag n) = tag.lead ++ known_text n
field_text (Range lead from to) = lead ++ (decimal from ++ (codes "-" ++ decimal to))
field_text (Words words) = words
field_text (At n) = []
field_text (Begins name) = []
field_text Ends = []
field_text (Part lead) = lead
field_text PartEnds = []
field_text LineEnds = 10 ∷ []

-- the texts of fields, one after the other
abbrev pub text_of : List Field → List ℕ
text_of = flat_map field_text
