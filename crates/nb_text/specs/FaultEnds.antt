-- Where the text of a fault has its place (our choice).
use Rattle.std.specs.Prelude.{◌≡◌, ℕ, true, not, List, ◌∷◌, ◌++◌, Option, Some, None}
use Rattle.std.specs.Char.{is_ascii_digit}
use Rattle.std.specs.Fmt.{decimal}
use Rattle.std.specs.List.{list_all}

-- EndsIn text n: the text ends with a space and this number
abbrev pub EndsIn : List ℕ → ℕ → Type 0
EndsIn text n = (front : List ℕ) × (text ≡ front ++ 32 ∷ decimal n)

-- the text has no digit
abbrev pub HasNoDigit : List ℕ → Type 0
HasNoDigit text = list_all (λ c. not (is_ascii_digit c)) text ≡ true

-- IsPlaceIn place text: the text ends with this place, or has no digit where there is none
abbrev pub IsPlaceIn : Option ℕ → List ℕ → Type 0
IsPlaceIn None text = HasNoDigit text
IsPlaceIn (Some at) text = EndsIn text at
