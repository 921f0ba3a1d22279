-- Bytes in hexadecimal (our choice): two digits for each byte, the high half first. They are read in either case, and
-- written in lower case. Data is its digits, or the word `empty` where it has no byte.
use Rattle.std.specs.Prelude.{ℕ, List, [], ◌∷◌, ◌+◌, ◌*◌, ◌/◌, ◌%◌, ◌<◌, length, codes, Result, Ok, Err, ◌&&◌, Option, Some, None, if◌then◌else◌, nat_lt}
use Rattle.std.specs.Int.{w16, to_be_bytes}
use Rattle.std.specs.List.{flat_map}
use Rattle.nb_streams.specs.declared.hexadecimal.DigitsFault.{DigitsFault}
use Rattle.nb_streams.specs.declared.hexadecimal.DigitsFault.TheVariants.{BadDigits, NoMemory}
use Rattle.std.specs.Char.{digit_value, digit_char}

-- ---- digits

-- a hexadecimal digit, in either case
abbrev pub IsHexDigit : ℕ → Type 0
IsHexDigit digit = digit_value digit < 16

-- the byte that two hexadecimal digits give, the high half first
abbrev pub byte_of : ℕ → ℕ → ℕ
byte_of high low = digit_value high * 16 + digit_value low

-- the two digits of a byte, in lower case
abbrev pub digits_of : ℕ → List ℕ
digits_of byte = digit_char (byte / 16) ∷ digit_char (byte % 16) ∷ []

-- ---- read

-- HexText bytes text: the text is two hexadecimal digits for each byte, in order
pub data HexText : List ℕ → List ℕ → Type 0 where
  no_byte : HexText [] []
  one_more : (high low : ℕ) (bytes text : List ℕ) → IsHexDigit high → IsHexDigit low
      → HexText bytes text → HexText (byte_of high low ∷ bytes) (high ∷ low ∷ text)

-- DataText bytes text: the text is the digits of the bytes, or `empty` where there is none
pub data DataText : List ℕ → List ℕ → Type 0 where
  empty : DataText [] (codes "empty")
  digits : (bytes text : List ℕ) → 0 < length text → HexText bytes text → DataText bytes text

-- ReadsDigits text result: what is answered of a text; that memory ran out only where it is a byte's digits or
-- more
abbrev pub ReadsDigits : List ℕ → Result (List ℕ) DigitsFault → Type 0
ReadsDigits text (Ok bytes) = HexText bytes text
ReadsDigits text (Err BadDigits) = (bytes : List ℕ) → ¬ HexText bytes text
ReadsDigits text (Err NoMemory) = (bytes : List ℕ) × HexText bytes text × 0 < length bytes

-- ReadsData text result: the same of a text of data
abbrev pub ReadsData : List ℕ → Result (List ℕ) DigitsFault → Type 0
ReadsData text (Ok bytes) = DataText bytes text
ReadsData text (Err BadDigits) = (bytes : List ℕ) → ¬ DataText bytes text
ReadsData text (Err NoMemory) = (bytes : List ℕ) × DataText bytes text × 0 < length bytes

-- the text of a fault
abbrev pub digits_fault_text : DigitsFault → List ℕ
digits_fault_text BadDigits = codes "bad digits"
digits_fault_text NoMemory = codes "memory"

-- ---- written

-- the digits of the bytes, in order
abbrev pub digits_text : List ℕ → List ℕ
digits_text = flat_map digits_of

-- a number of sixteen bits, as four digits
abbrev pub word_text : ℕ → List ℕ
word_text n = digits_text (to_be_bytes w16 n)

-- data: its digits, or `empty` where it has no byte
abbrev pub data_text : List ℕ → List ℕ
data_text [] = codes "empty"
data_text (byte ∷ bytes) = digits_text (byte ∷ bytes)

-- ---- the byte of two hexadecimal digits, as a test has it

-- the byte that two digits of either case give, the high half first; none where one of them is no digit
abbrev pub pair_byte : ℕ → ℕ → Option ℕ
pair_byte high low =
    if nat_lt (digit_value high) 16 && nat_lt (digit_value low) 16 then Some (byte_of high low) else None
