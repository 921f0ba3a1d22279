-- JSON objects as lines (our choice).
use Rattle.std.specs.Prelude.{◌≡◌, ◌++◌, ◌∷◌, [], ℕ, List}
use Rattle.nb_telling.specs.Telling.{Field}
use Rattle.nb_telling.specs.Members.{IsJson}
use Rattle.nb_telling.specs.Tokens.{object_of}

-- an object with these members as a line: a line feed, 10, ends it
abbrev pub object_line : List Field → List ℕ
object_line fields = object_of fields ++ 10 ∷ []

-- IsObject fields text: the text is the object with these members as a line, one value of RFC 8259
pub record IsObject (fields : List Field) (text : List ℕ) : Type 0 where
  pub json : IsJson (object_of fields)
  pub is : text ≡ object_line fields
