-- The bytes of the characters that names are spelled and written with, as ASCII numbers them.
use Rattle.std.specs.Prelude.{ℕ}

-- the space
abbrev pub space : ℕ
space = 32

-- `.`
abbrev pub dot : ℕ
dot = 46

-- `<`
abbrev pub less_than : ℕ
less_than = 60

-- `>`
abbrev pub greater_than : ℕ
greater_than = 62

-- `A`
abbrev pub letter_a : ℕ
letter_a = 65

-- `P`
abbrev pub letter_p : ℕ
letter_p = 80

-- `\`
abbrev pub backslash : ℕ
backslash = 92
