-- What is added to a text: letters, labels, and bytes that stand for themselves.
use Rattle.std.proofs.Common.{◌≡◌, ℕ, suc, ◌/◌, ◌%◌, ◌<◌, List, [], ◌∷◌, ◌++◌, sym, arith, ◌+◌, ◌-◌, ◌*◌, ◌==◌, ◌&&◌, Bool, true, false, length, zero, slice_index, refl, ◌∙◌, ap, subst}
use Rattle.std.specs.Str.{IsAscii}
use Rattle.std.proofs.lemmas.Bool.Decides.{nat_tests}
use Rattle.std.proofs.lemmas.Str.Ascii.{IsAscii-nil, IsAscii-cons}
use Rattle.nb_names.specs.NameText.{is_letter, are_letters, bytes_of_letters, labels_written, domain_written, bytes_written, scope_text_of, is_plain, items_of}
use Rattle.std.specs.List.{list_all}
use Rattle.nb_streams.specs.Places.{AreBytes}
use Rattle.nb_names.specs.FirstLevel.{letter, letters, IsLetter, IsFirstNonLetter}
use Rattle.nb_names.proofs.FirstLevelLemmas.{length-letters}
use Rattle.std.proofs.lemmas.Str.{IsAscii-append}
use Rattle.std.proofs.lemmas.Bool.{and_parts}

letter_passes : (half : ℕ) → half < 16 → is_letter (letter half) ≡ true
letter_passes half h = grind (arith, nat_tests)

letters_pass : (bytes : List ℕ) → AreBytes bytes → list_all is_letter (letters bytes) ≡ true
letters_pass [] h = refl
letters_pass (b ∷ bytes) h =
    let byte : b < 256 = h.0 in
    rw (letter_passes (b / 16) (omega (arith, byte)), letter_passes (b % 16) (omega arith)) (letters_pass bytes h.1)

bytes_given_back : (bytes : List ℕ) → bytes_of_letters (letters bytes) ≡ bytes
bytes_given_back [] = refl
bytes_given_back (b ∷ bytes) =
    let byte : (letter (b / 16) - 65) * 16 + (letter (b % 16) - 65) ≡ b = omega arith in
    rw (byte, bytes_given_back bytes) refl

-- they are written as a name
pub labels_written-letters : (bytes : List ℕ) (scope : List (List ℕ)) → length bytes ≡ 16 → AreBytes bytes
    → labels_written (letters bytes ∷ scope) ≡ bytes_written bytes ++ scope_text_of scope
labels_written-letters bytes scope sixteen each =
    let long : length (letters bytes) ≡ 32 = omega (arith, length-letters bytes, sixteen) in
    rw (long, letters_pass bytes each, bytes_given_back bytes) refl

not_letter : (byte : ℕ) → ¬ IsLetter byte → is_letter byte ≡ false
not_letter byte non = grind (arith, nat_tests)

and_false : (test : Bool) → (test && false) ≡ false
and_false true = refl
and_false false = refl

not_all_letters : (label : List ℕ) (place : ℕ) → place < length label → ¬ IsLetter (slice_index label place) → list_all is_letter label ≡ false
not_all_letters [] place within non = absurd (omega arith)
not_all_letters (b ∷ label) zero within non = rw (not_letter b non) refl
not_all_letters (b ∷ label) (suc place) within non =
    ap (λ rest. is_letter b && rest) (not_all_letters label place (omega arith) non) ∙ and_false (is_letter b)

as_domain : (first : List ℕ) (scope : List (List ℕ)) → are_letters first ≡ false → labels_written (first ∷ scope) ≡ domain_written (first ∷ scope)
as_domain first scope e = rw e refl

-- others are written as a domain name
pub labels_written-others : (first : List ℕ) (scope : List (List ℕ)) (place : ℕ) → IsFirstNonLetter first place
    → labels_written (first ∷ scope) ≡ domain_written (first ∷ scope)
labels_written-others first scope place is =
    as_domain first scope (ap (λ all. (length first == 32) && all) (not_all_letters first place is.within is.non_letter) ∙ and_false (length first == 32))

plain_small : (byte : ℕ) → is_plain byte ≡ true → byte < 128
plain_small byte h = grind (arith, nat_tests)

-- plain bytes are ASCII
pub plain_ascii : (bytes : List ℕ) → list_all is_plain bytes ≡ true → IsAscii bytes
plain_ascii [] h = IsAscii-nil
plain_ascii (byte ∷ bytes) h =
    let parts = and_parts (is_plain byte) (list_all is_plain bytes) h in
    IsAscii-cons byte bytes (plain_small byte parts.0) (plain_ascii bytes parts.1)

-- plain bytes are their items
pub plain_items : (bytes : List ℕ) → list_all is_plain bytes ≡ true → items_of bytes ≡ bytes
plain_items [] h = refl
plain_items (byte ∷ bytes) h =
    let parts = and_parts (is_plain byte) (list_all is_plain bytes) h in
    rw parts.0 (ap (λ (items : List ℕ). byte ∷ items) (plain_items bytes parts.1))

-- one is ASCII
pub plain_one : (byte : ℕ) → is_plain byte ≡ true → IsAscii (byte ∷ [])
plain_one byte h = IsAscii-cons byte [] (plain_small byte h) IsAscii-nil

-- so it is after others
pub plain_behind : (before : List ℕ) (byte : ℕ) (row : List ℕ) → is_plain byte ≡ true → IsAscii before → row ≡ before ++ byte ∷ [] → IsAscii row
plain_behind before byte row h was e = subst IsAscii (sym e) (IsAscii-append before (byte ∷ []) was (plain_one byte h))
