-- The lines of a capture among the bytes that came from an input (our choice).
use Rattle.std.specs.Prelude.{ℕ, List, take, ◌≤◌, length, Option, ◌<◌, ◌++◌, ◌∷◌}
use Rattle.std.specs.Io.KnownBytes.{IsAtEnd}
use Rattle.nb_streams.specs.Lines.{CutInto, with_rest}
use Rattle.nb_capture.specs.declared.limits.TheConstants.{MAX_LINE}
use Rattle.nb_capture.specs.Capture.{IsMalformed}

-- the bytes that are looked at, where an input may have so many
abbrev pub looked_at : ℕ → List ℕ → List ℕ
looked_at most bytes = take most bytes

-- the bytes are the whole input: no byte is left, and they are within the limit
pub record IsWhole (most : ℕ) (bytes : List ℕ) (left : Option (List ℕ)) : Type 0 where
  pub at_end : IsAtEnd left
  pub within : length bytes ≤ most

-- AreLines most bytes left lines: these are the lines to act on: the finished ones, and the rest where the input
-- ends with it
pub data AreLines (most : ℕ) (bytes : List ℕ) (left : Option (List ℕ)) : List (List ℕ) → Type 0 where
  finished : (lines : List (List ℕ)) (rest : List ℕ) → CutInto (looked_at most bytes) lines rest
      → AreLines most bytes left lines
  whole : (lines : List (List ℕ)) (rest : List ℕ) → CutInto (looked_at most bytes) lines rest → IsWhole most bytes left
      → AreLines most bytes left (with_rest lines rest)

-- ComesMalformed most bytes left lines: after these lines comes a malformed one. Of one that neither a line
-- feed nor the input's end has ended, the length alone is judged
pub data ComesMalformed (most : ℕ) (bytes : List ℕ) (left : Option (List ℕ)) : List (List ℕ) → Type 0 where
  ended : (lines more : List (List ℕ)) (line : List ℕ) → AreLines most bytes left (lines ++ line ∷ more)
      → IsMalformed line → ComesMalformed most bytes left lines
  too_long : (lines : List (List ℕ)) (rest : List ℕ) → CutInto (looked_at most bytes) lines rest → MAX_LINE < length rest
      → ComesMalformed most bytes left lines
