-- What a reader of the texts can rely on (our choice): a text is lines; a line is words of printable ASCII with one space
-- between them; two or four spaces begin the line of a part, and no other.
use Rattle.std.specs.Prelude.{◌≡◌, ℕ, ◌<◌, ◌≤◌, List, ◌∷◌, ◌++◌, length, [], Option}
use Rattle.std.specs.Int.{w16, to_be_bytes}
use Rattle.std.specs.List.{AllByRecursion, flat_map}
use Rattle.nb_text.specs.Lines.{line_end}
use Rattle.nb_telling.specs.Telling.{Field, FieldTag, Text, Number, Digits, Begins, Ends, LineEnds, place_fields}
use Rattle.nb_text.specs.Tags.{tag_named, refused_tag}

-- a character that can be seen: 21 to 7e in hexadecimal
abbrev pub IsVisible : ℕ → Type 0
IsVisible c = (33 ≤ c) × (c ≤ 126)

-- a word: one such character or more, so it has no space
abbrev pub IsWord : List ℕ → Type 0
IsWord word = (0 < length word) × AllByRecursion IsVisible word

-- AreWords line: the line is words, with one space between them
pub data AreWords : List ℕ → Type 0 where
  last : (word : List ℕ) → IsWord word → AreWords word
  more : (word line : List ℕ) → IsWord word → AreWords line → AreWords (word ++ 32 ∷ line)

-- IsPart line: two or four spaces, and then words
pub data IsPart : List ℕ → Type 0 where
  two : (line : List ℕ) → AreWords line → IsPart (32 ∷ 32 ∷ line)
  four : (line : List ℕ) → AreWords line → IsPart (32 ∷ 32 ∷ 32 ∷ 32 ∷ line)

-- the text is a line of words, and then lines of parts
pub record AreLines (text : List ℕ) : Type 0 where
  pub first : List ℕ
  pub parts : List (List ℕ)
  pub words : AreWords first
  pub each : AllByRecursion IsPart parts
  pub whole : text ≡ first ++ (line_end ++ flat_map (λ part. part ++ line_end) parts)

-- ---- the fields that all packets have, and those of a payload that begins with none (our choice)

-- how many bytes of the payload a packet takes up, with which its line ends
abbrev pub used_fields : ℕ → List Field
used_fields used = Number (tag_named "used") used ∷ LineEnds ∷ []

-- refused_fields fault place: why a payload begins with no packet, the fault's text and its place
abbrev pub refused_fields : List ℕ → Option ℕ → List Field
refused_fields fault place = Text refused_tag fault ∷ (place_fields place ++ LineEnds ∷ [])

-- a number of sixteen bits, as four digits
abbrev pub word_field : FieldTag → ℕ → Field
word_field key n = Digits key (to_be_bytes w16 n)

-- list_fields name parts: these parts as a list of this name
abbrev pub list_fields : List ℕ → List Field → List Field
list_fields name parts = Begins name ∷ (parts ++ Ends ∷ [])
