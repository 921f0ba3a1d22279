-- Fields of headers, by the place of their first byte. All places count from the first byte of the bytes.
--
-- A byte that isn't there counts as 0; so what cites a field says also that it is there.
use Rattle.std.specs.Prelude.{ℕ, List, take, drop, slice_index}
use Rattle.std.specs.Int.{Width, w16, w32, byte_len, from_be_bytes}

-- the number in the field of this width at a place, high byte first
abbrev pub number_at : Width → List ℕ → ℕ → ℕ
number_at width bytes at = from_be_bytes width (take (byte_len width) (drop at bytes))

-- the number in the two bytes at a place
abbrev pub word_at : List ℕ → ℕ → ℕ
word_at = number_at w16

-- the number in the four bytes at a place
abbrev pub long_at : List ℕ → ℕ → ℕ
long_at = number_at w32

-- the byte at a place
abbrev pub byte_at : List ℕ → ℕ → ℕ
byte_at = slice_index

-- so many bytes at a place
abbrev pub bytes_at : ℕ → List ℕ → ℕ → List ℕ
bytes_at count bytes at = take count (drop at bytes)
