-- The tags of objects (our choice).
use Rattle.std.specs.Prelude.{ℕ, List, []}
use Rattle.nb_telling.specs.Telling.{FieldTag}

-- a tag of an object, which no text has
abbrev pub bare_tag : List ℕ → FieldTag
bare_tag name = record { name = name; lead = [] }
