-- The words behind `help`.
use Rattle.std.specs.Prelude.{◌≡◌, ◌≢◌, ℕ, List, [], ◌∷◌, codes}

-- the words are the program's name, `help`, and these, of which there is one or more
abbrev pub AreBehindHelp : List (List ℕ) → List (List ℕ) → Type 0
AreBehindHelp words texts = (program : List ℕ) × (words ≡ program ∷ codes "help" ∷ texts) × (texts ≢ [])
