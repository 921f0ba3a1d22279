-- Lemmas on hexadecimal digits, for proofs here and in the crates above.
use Rattle.std.proofs.Common.{◌≡◌, ◌⊎◌, inl, inr, ℕ, ◌*◌, ◌%◌, ◌<◌, true, List, [], ◌∷◌, length, refl, sym, ap, ap₂, subst, ◌∙◌, arith}
use Rattle.std.specs.Prelude.{codes}
use Rattle.std.specs.List.{list_all}
use Rattle.std.specs.Char.{is_ascii_hexdigit}
use Rattle.std.proofs.lemmas.Bool.{and_parts}
use Rattle.std.proofs.lemmas.Bool.Decides.{nat_tests}
use Rattle.nb_streams.specs.Hexadecimal.{IsHexDigit, byte_of}
use Rattle.nb_streams.specs.Hexadecimal.{HexText, no_byte, one_more, DataText, empty, digits}

hex_digit_at : (c : ℕ) → is_ascii_hexdigit c ≡ true → IsHexDigit c
hex_digit_at c h = grind (arith, nat_tests)

at_hex_digit : (c : ℕ) → IsHexDigit c → is_ascii_hexdigit c ≡ true
at_hex_digit c h = grind (arith, nat_tests)

-- the digits of bytes are two for each
pub length-HexText : (bytes text : List ℕ) → HexText bytes text → length text ≡ 2 * length bytes
length-HexText _ _ no_byte = refl
length-HexText _ _ (one_more high low bytes text h l rest) =
    let rec = length-HexText bytes text rest in omega (arith, rec)

-- and pass the test
pub test-from_HexText : (bytes text : List ℕ) → HexText bytes text → list_all is_ascii_hexdigit text ≡ true
test-from_HexText _ _ no_byte = refl
test-from_HexText _ _ (one_more high low bytes text h l rest) =
    rw (at_hex_digit high h, at_hex_digit low l) (test-from_HexText bytes text rest)

-- an even number of digits gives bytes
pub HexText-from_test : (text : List ℕ) → list_all is_ascii_hexdigit text ≡ true → length text % 2 ≡ 0
    → (bytes : List ℕ) × HexText bytes text
HexText-from_test [] h even = ([], no_byte)
HexText-from_test (high ∷ []) h even = absurd (omega (arith, even))
HexText-from_test (high ∷ low ∷ text) h even =
    let first = and_parts (is_ascii_hexdigit high) (list_all is_ascii_hexdigit (low ∷ text)) h in
    let second = and_parts (is_ascii_hexdigit low) (list_all is_ascii_hexdigit text) first.1 in
    let rest = HexText-from_test text second.1 (omega (arith, even)) in
    (byte_of high low ∷ rest.0, one_more high low rest.0 text (hex_digit_at high first.0) (hex_digit_at low second.0) rest.1)

-- no digits are of no bytes
no_digits : (bytes text : List ℕ) → HexText bytes text → text ≡ [] → bytes ≡ []
no_digits _ _ no_byte e = refl
no_digits _ _ (one_more high low bytes text h l rest) e = cc

-- two digits are of the first byte
first_digits : (bytes text : List ℕ) → HexText bytes text → (high low : ℕ) (more : List ℕ) → text ≡ high ∷ low ∷ more
    → (others : List ℕ) × HexText others more × (bytes ≡ byte_of high low ∷ others)
first_digits _ _ no_byte high low more e = cc
first_digits _ _ (one_more a b bytes text h l rest) high low more e =
    let same : text ≡ more = cc in
    let first : a ≡ high = cc in
    let second : b ≡ low = cc in
    (bytes, subst (λ (t : List ℕ). HexText bytes t) same rest, ap₂ (λ (x y : ℕ). byte_of x y ∷ bytes) first second)

-- digits give one row of bytes
pub one_HexText : (text bytes others : List ℕ) → HexText bytes text → HexText others text → bytes ≡ others
one_HexText _ _ others no_byte k = sym (no_digits others [] k refl)
one_HexText _ _ others (one_more high low bytes text h l rest) k =
    let c = first_digits others (high ∷ low ∷ text) k high low text refl in
    ap (λ (r : List ℕ). byte_of high low ∷ r) (one_HexText text bytes c.0 rest c.1) ∙ sym c.2

-- a text of data is `empty`, or digits
pub DataText-cases : (bytes text : List ℕ) → DataText bytes text
    → ((bytes ≡ []) × (text ≡ codes "empty")) ⊎ ((0 < length text) × HexText bytes text)
DataText-cases _ _ empty = inl (refl, refl)
DataText-cases _ _ (digits bytes text some h) = inr (some, h)
