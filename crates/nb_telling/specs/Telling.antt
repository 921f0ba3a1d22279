-- What sinks are given, and what they keep.
use Rattle.nb_telling.specs.declared.sink.FieldTag.{FieldTag as GivenTag}
use Rattle.std.specs.Prelude.{ℕ, List, [], ◌∷◌, Option, None, Some}

-- ---- what is told of a thing, as of a packet (our choice): a list of fields, in order
-- Each kind of field stands in text and in JSON in its own way (Texts, Tokens).

-- the name of a field in an object, and what stands before its value in text
pub record FieldTag : Type 0 where
  pub name : List ℕ
  pub lead : List ℕ

-- what is reported of a thing, piece by piece
pub data Field : Type 0 where
  -- under a tag: a text; a number; bytes as hexadecimal digits; data, which may be empty; the names of a set
  Text : FieldTag → List ℕ → Field
  Number : FieldTag → ℕ → Field
  Digits : FieldTag → List ℕ → Field
  Data : FieldTag → List ℕ → Field
  Set : FieldTag → List (List ℕ) → Field
  -- a number under a tag, where it is known
  Known : FieldTag → Option ℕ → Field
  -- a part of a list that is two numbers, which begins so in text
  Range : List ℕ → ℕ → ℕ → Field
  -- words that stand in text alone
  Words : List ℕ → Field
  -- the place of a fault, with which the fault's text ends
  At : ℕ → Field
  -- a list under this name, of parts, up to its end
  Begins : List ℕ → Field
  Ends : Field
  -- a part of a list, which begins so in text, up to its end
  Part : List ℕ → Field
  PartEnds : Field
  -- the end of a line of text
  LineEnds : Field

-- the place of a fault, where it has one
abbrev pub place_fields : Option ℕ → List Field
place_fields None = []
place_fields (Some place) = At place ∷ []

-- what a tag of the code stands for
abbrev pub tag_of : GivenTag → FieldTag
tag_of k = record { name = k.name.now; lead = k.lead.now }

-- Grows is_front old new: each front of the old is one of the new
abbrev pub Grows : {A : Type 0} → (A → A → Type 0) → A → A → Type 0
Grows {A} is_front old new = (front : A) → is_front front old → is_front front new
