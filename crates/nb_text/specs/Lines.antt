-- What all texts of packets have (our choice). A line ends with a line feed, 10.
use Rattle.std.specs.Prelude.{ℕ, List, [], ◌∷◌, ◌++◌, codes}
use Rattle.std.specs.Fmt.{decimal}

-- the end of a line
abbrev pub line_end : List ℕ
line_end = 10 ∷ []

-- how many bytes of the payload a packet takes up, with which its line ends
abbrev pub used_text : ℕ → List ℕ
used_text used = codes " used=" ++ (decimal used ++ line_end)

-- why a payload begins with no packet: the fault's text
abbrev pub refused_text : List ℕ → List ℕ
refused_text fault = codes "refused " ++ (fault ++ line_end)
