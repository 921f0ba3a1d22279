-- The words of the crate hex, and ours.
use Rattle.std.proofs.Common.{◌≡◌, ◌≢◌, ◌==◌, ℕ, suc, ◌+◌, ◌/◌, ◌%◌, ◌<◌, ◌≤◌, true, false, nat_lt, List, [], ◌∷◌, ◌++◌, length, take, get_or, slice_index, Option, Some, None, Result, Ok, Err, refl, sym, subst, ◌∙◌, arith, inl, inr}
use Rattle.std.specs.Prelude.{IsOk, MatchResult, OnOk}
use Rattle.std.specs.Char.{digit_value, digit_char, is_ascii_hexdigit}
use Rattle.std.proofs.lemmas.Bool.{agree_below_at, cases_lt, eqb-true, lt-ltb}
use Rattle.std.proofs.lemmas.Bool.Decides.{nat_tests}
use Rattle.std.proofs.lemmas.List.{take_at}
use Rattle.std.proofs.lemmas.List.Sums.{list_all-from_AllPass}
use Rattle.hex.specs.Hex.{IsBytes, decode_of, decode_pairs, decode_sized, encode_lower, encode_with, hex_digit_value, is_hex_digit, lower_digits}
use Rattle.hex.specs.declared.error.FromHexError.{FromHexError}
use Rattle.hex.proofs.HexLemmas.{decode_of-even, decode_of-ok, decode_of-same}
use Rattle.hex.proofs.Pairs.{decode_sized-pairs}
use Rattle.nb_streams.specs.Hexadecimal.{IsHexDigit}
use Rattle.nb_streams.specs.Hexadecimal.{HexText, no_byte, one_more, digits_text, pair_byte}
use Rattle.nb_streams.specs.HexadecimalFacts.{HexText-from_test, length-HexText}

-- ---- read

-- a digit has the value that we say
value_same : (c : ℕ) → IsHexDigit c → hex_digit_value c ≡ Some (digit_value c)
value_same c h = grind (arith, nat_tests)

-- and another byte has none
no_value : (c : ℕ) → ¬ IsHexDigit c → hex_digit_value c ≡ None
no_value c h = grind (arith, nat_tests)

-- what hex takes for a digit is one
digit_same : (c : ℕ) → is_hex_digit c ≡ true → is_ascii_hexdigit c ≡ true
digit_same c h = grind (arith, nat_tests)

-- the digits of bytes decode to them
pairs_of : (i : ℕ) (bytes text : List ℕ) → HexText bytes text → decode_pairs i text ≡ Ok bytes
unfolding decode_pairs
pairs_of i _ _ no_byte = refl
pairs_of i _ _ (one_more high low bytes text h l rest) =
    let more = pairs_of (i + 2) bytes text rest in
    rw (value_same high h, value_same low l, more) refl

decoded : (bytes text : List ℕ) → HexText bytes text → decode_of text ≡ Ok bytes
decoded bytes text h =
    let len = length-HexText bytes text h in
    decode_of-even text (omega (arith, len)) ∙ pairs_of 0 bytes text h

-- what decodes is the digits of the bytes
pub digits_of_decoded : (bytes text : List ℕ) → decode_of text ≡ Ok bytes → HexText bytes text
digits_of_decoded bytes text h =
    let ok = decode_of-ok text bytes h in
    let all = list_all-from_AllPass is_ascii_hexdigit text (λ i d fits. digit_same (get_or text i d) (ok.1 i d fits)) in
    let some = HexText-from_test text all ok.0 in
    subst (λ (b : List ℕ). HexText b text) (decode_of-same text some.0 bytes (decoded some.0 text some.1) h) some.1

-- what doesn't is no bytes' digits
pub no_digits : (text : List ℕ) (e : FromHexError) → decode_of text ≡ Err e → (bytes : List ℕ) → ¬ HexText bytes text
no_digits text e h bytes k = cc (sym h ∙ decoded bytes text k)

-- nor is a text of an odd length
pub odd_digits : (text : List ℕ) → length text % 2 ≢ 0 → (bytes : List ℕ) → ¬ HexText bytes text
odd_digits text odd bytes h = absurd (odd (let len = length-HexText bytes text h in omega (arith, len)))

-- IsDecoded read room result: into the room this was decoded, or nothing is
abbrev pub IsDecoded : Result (List ℕ) FromHexError → List ℕ → Result Unit FromHexError → Type 0
IsDecoded read room result = MatchResult read (λ bytes. (result ≡ Ok tt) × (room ≡ bytes)) (λ e. result ≡ Err e)

-- what is answered of a text that is decoded into room for its bytes
decoded_as : (text room : List ℕ) (read : Result (List ℕ) FromHexError) (result : Result Unit FromHexError) → decode_of text ≡ read
    → IsDecoded read room result → MatchResult result (λ _. HexText room text) (λ _. (bytes : List ℕ) → ¬ HexText bytes text)
decoded_as text room (Ok bytes) result is (done, put) = rw (done, put) (digits_of_decoded bytes text is)
decoded_as text room (Err e) result is failed = rw failed (no_digits text e is)

pub decoded_into : (text room : List ℕ) (n : ℕ) (result : Result Unit FromHexError) → length text % 2 ≡ 0 → n ≡ length text / 2
    → IsDecoded (decode_sized text n) room result → MatchResult result (λ _. HexText room text) (λ _. (bytes : List ℕ) → ¬ HexText bytes text)
decoded_into text room n result even half is =
    decoded_as text room (decode_sized text n) result (decode_of-even text even ∙ sym (decode_sized-pairs text n even (sym half))) is

-- and of the room as it is then, which has a byte for two of the text
pub put_back : (text put rest room : List ℕ) (n : ℕ) → HexText put text → n ≡ length text / 2 → room ≡ take n (put ++ rest)
    → HexText room text
put_back text put rest room n h half is =
    let len = length-HexText put text h in
    let all : length put ≡ n = omega (arith, len, half) in
    subst (λ (b : List ℕ). HexText b text) (sym (is ∙ take_at put rest n all)) h

-- ---- a pair

-- IsPair read byte: what is decoded of two digits is this byte alone, or there is none
abbrev pub IsPair : Result (List ℕ) FromHexError → Option ℕ → Type 0
IsPair (Ok bytes) byte = Some (slice_index bytes 0) ≡ byte
IsPair (Err _) byte = None ≡ byte

fails_test : (n : ℕ) → 16 ≤ n → nat_lt n 16 ≡ false
fails_test n h = grind (arith, nat_tests)

pub pair_decoded : (high low : ℕ) → IsPair (decode_sized (high ∷ low ∷ []) 1) (pair_byte high low)
unfolding decode_pairs
pair_decoded high low = elim (cases_lt (digit_value high) 16) [
  | inr big ↦ rw (no_value high (λ h. omega (arith, h, big)), fails_test (digit_value high) big) refl
  | inl h ↦ elim (cases_lt (digit_value low) 16) [
    | inr big ↦ rw (value_same high h, no_value low (λ l. omega (arith, l, big)), lt-ltb (digit_value high) 16 h, fails_test (digit_value low) big) refl
    | inl l ↦ rw (value_same high h, value_same low l, lt-ltb (digit_value high) 16 h, lt-ltb (digit_value low) 16 l) refl
  ]
]

-- what is read of a pair, and put into its room
pub pair_read : (read : Result (List ℕ) FromHexError) (byte : Option ℕ) (room : List ℕ) (result : Result Unit FromHexError)
    → IsPair read byte → MatchResult read (λ bytes. (result ≡ Ok tt) × (room ≡ bytes)) (λ e. result ≡ Err e)
    → MatchResult result (λ _. Some (slice_index room 0) ≡ byte) (λ _. None ≡ byte)
pair_read (Ok bytes) byte room result is (done, put) = rw (done, put) is
pair_read (Err e) byte room result is failed = rw failed is

-- ---- written

-- what holds at Ok, where it is Ok
pub at_ok : {P : Type 0} (r : Result Unit FromHexError) → IsOk r → OnOk r P → P
at_ok (Ok u) ok h = h
at_ok (Err e) ok h = cc ok

-- the digits are those that we say, by computing
char_same : (d : ℕ) → d < 16 → slice_index lower_digits d ≡ digit_char d
char_same d h = eqb-true (slice_index lower_digits d) (digit_char d)
    (agree_below_at (λ k. slice_index lower_digits k == digit_char k) (λ k. true) 16 d refl h)

pub encode_same : (bytes : List ℕ) → IsBytes bytes → encode_lower bytes ≡ digits_text bytes
unfolding encode_with
encode_same [] small = refl
encode_same (b ∷ bytes) small =
    let byte : b < 256 = small 0 in
    rw (char_same (b / 16) (omega arith), char_same (b % 16) (omega arith), encode_same bytes (λ i. small (suc i))) refl
