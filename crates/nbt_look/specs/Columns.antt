-- The columns of a list: cells with spaces before or after them, and widths, which grow with what stands in the column (our choice).
-- A width, like a cell, is counted in bytes.
use Rattle.std.specs.Prelude.{ℕ, ◌-◌, List, [], ◌∷◌, ◌++◌, length, codes, max, replicate}
use Rattle.nbt_look.specs.declared.widths.Widths.{Widths}

-- the texts of the columns before the phrase
pub record CellTexts : Type 0 where
  pub number : List ℕ
  pub time : List ℕ
  pub source : List ℕ
  pub target : List ℕ

-- so many spaces
abbrev pub spaces : ℕ → List ℕ
spaces count = replicate count 32

-- a cell at the right of a column of this width, and the space after the column
abbrev pub at_right : ℕ → List ℕ → List ℕ
at_right width cell = spaces (width - length cell) ++ (cell ++ codes " ")

-- a cell at the left of one
abbrev pub at_left : ℕ → List ℕ → List ℕ
at_left width cell = cell ++ (spaces (width - length cell) ++ codes " ")

-- the widths before the first line
abbrev pub first_widths : Widths
first_widths = record { number = 5; time = 9; source = 15; target = 15 }

-- the widths once these cells stand in the columns too
abbrev pub widened : Widths → CellTexts → Widths
widened widths cells = record {
  number = max widths.number (length cells.number);
  time = max widths.time (length cells.time);
  source = max widths.source (length cells.source);
  target = max widths.target (length cells.target);
}

-- the columns of a line: number and time at the right, from where and to where at the left
abbrev pub columns_text : Widths → CellTexts → List ℕ
columns_text widths cells =
    at_right widths.number cells.number
    ++ (at_right widths.time cells.time ++ (at_left widths.source cells.source ++ at_left widths.target cells.target))

-- what stands at the end of a line in this colour, or in none: SGR's end of it (ECMA-48 section 8.3.117)
abbrev pub end_of_line : List ℕ → List ℕ
end_of_line [] = codes "\n"
end_of_line (code ∷ more) = 27 ∷ codes "[0m\n"

-- a line in this colour, or in none: its columns and a phrase
abbrev pub line_text : List ℕ → Widths → CellTexts → List ℕ → List ℕ
line_text colour widths cells phrase = colour ++ (columns_text widths cells ++ (phrase ++ end_of_line colour))
