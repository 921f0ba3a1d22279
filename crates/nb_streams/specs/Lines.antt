-- The lines of a text (our choice). After each stands a line feed, 10, which a last line that has bytes may
-- lack.
use Rattle.std.specs.Prelude.{◌≡◌, ℕ, List, [], ◌∷◌, ◌++◌, Contains}

-- the text has no line feed
abbrev pub IsLine : List ℕ → Type 0
IsLine text = ¬ Contains text 10

-- CutInto bytes lines rest: the bytes are these lines, each with a line feed after it, and then the rest; no
-- other byte of them is a line feed
pub data CutInto : List ℕ → List (List ℕ) → List ℕ → Type 0 where
  rest : (rest : List ℕ) → IsLine rest → CutInto rest [] rest
  line : (line bytes rest : List ℕ) (lines : List (List ℕ)) → IsLine line
      → CutInto bytes lines rest → CutInto (line ++ 10 ∷ bytes) (line ∷ lines) rest

-- the lines where the rest is a line too, unless it is empty
abbrev pub with_rest : List (List ℕ) → List ℕ → List (List ℕ)
with_rest lines [] = lines
with_rest lines (b ∷ bytes) = lines ++ (b ∷ bytes) ∷ []

-- HasLines text lines: these are the lines of the text, which is whole
pub record HasLines (text : List ℕ) (lines : List (List ℕ)) : Type 0 where
  pub finished : List (List ℕ)
  pub last : List ℕ
  pub cut : CutInto text finished last
  pub are : lines ≡ with_rest finished last
