-- The letters that spell the bytes of a NetBIOS name (RFC 1001 section 14.1): each byte becomes two,
-- its high half first, as 'A' plus the half.
use Rattle.std.specs.Prelude.{ℕ, ◌+◌, ◌/◌, ◌%◌, ◌<◌, ◌≤◌, List, [], ◌∷◌, length, slice_index}
use Rattle.nb_streams.specs.Ascii.{letter_a, letter_p}

-- the letter of a half byte
abbrev pub letter : ℕ → ℕ
letter half = letter_a + half

-- the letters of the bytes, in order
abbrev pub letters : List ℕ → List ℕ
letters [] = []
letters (byte ∷ bytes) = letter (byte / 16) ∷ letter (byte % 16) ∷ letters bytes

-- a letter is one of 'A' to 'P'; our choice: lower-case letters are none
abbrev pub IsLetter : ℕ → Type 0
IsLetter byte = (letter_a ≤ byte) × (byte ≤ letter_p)

-- the label's first byte that is no letter stands at this place of it
pub record IsFirstNonLetter (label : List ℕ) (place : ℕ) : Type 0 where
  pub within : place < length label
  pub non_letter : ¬ IsLetter (slice_index label place)
  pub before : (k : ℕ) → k < place → IsLetter (slice_index label k)
