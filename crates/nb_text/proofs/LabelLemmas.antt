-- Which labels are a NetBIOS name's, and how labels are written, in other words.
use Rattle.std.proofs.Common.{◌≡◌, ◌≢◌, ◌==◌, ℕ, zero, suc, ◌+◌, ◌-◌, ◌*◌, ◌/◌, ◌%◌, ◌<◌, nat_le, Bool, true, false, if◌then◌else◌, List, [], ◌∷◌, length, slice_index, Option, Some, None, refl, sym, subst, ap, ◌∙◌, arith}
use Rattle.std.specs.List.{AllByRecursion, list_all}
use Rattle.std.specs.Char.{digit_char, digit_value}
use Rattle.std.proofs.lemmas.Bool.{and_parts, ne_eqb}
use Rattle.std.proofs.lemmas.Bool.Decides.{nat_tests}
use Rattle.std.proofs.lemmas.Str.{digit_value-digit_char}
use Rattle.nb_names.specs.DomainName.{IsLabel, IsDomain, AreByteLabels}
use Rattle.nb_streams.specs.Places.{AreBytes}
use Rattle.nb_names.specs.FirstLevel.{letter, letters, IsLetter}
use Rattle.nb_names.specs.Name.{NetbiosName, IsName, labels_of_name, IsNoName, no_label as no_first, wrong_length, non_letter}
use Rattle.nb_names.specs.NameText.{is_plain, Item, plain, escaped, Items, no_item, more_items, ScopeText, no_label, more_labels, item_of, items_of, scope_text_of, domain_written, is_letter, are_letters, bytes_of_letters, name_of_labels, either_written, labels_written, written}
use Rattle.nb_streams.specs.Hexadecimal.{byte_of, digits_of}
use Rattle.nb_names.proofs.FirstLevelLemmas.{length-letters}
use Rattle.nb_text.proofs.FieldLemmas.{letters_are_a_name}
use Rattle.nb_text.proofs.LabelTells.{letters_back}

-- ---- the labels of a name

letter_passes : (half : ℕ) → half < 16 → is_letter (letter half) ≡ true
letter_passes half h = grind (arith, nat_tests)

letters_pass : (bytes : List ℕ) → AreBytes bytes → list_all is_letter (letters bytes) ≡ true
letters_pass [] h = refl
letters_pass (b ∷ bytes) h =
    let byte : b < 256 = h.0 in
    rw (letter_passes (b / 16) (omega (arith, byte)), letter_passes (b % 16) (omega arith)) (letters_pass bytes h.1)

bytes_back : (bytes : List ℕ) → bytes_of_letters (letters bytes) ≡ bytes
bytes_back [] = refl
bytes_back (b ∷ bytes) =
    let byte : (letter (b / 16) - 65) * 16 + (letter (b % 16) - 65) ≡ b = omega arith in
    rw (byte, bytes_back bytes) refl

pub name_found : (name : NetbiosName) → IsName name → name_of_labels (labels_of_name name) ≡ Some name
name_found name is =
    let sixteen = is.sixteen in
    let long : length (letters name.bytes) ≡ 32 = omega (arith, length-letters name.bytes, sixteen) in
    rw (long, letters_pass name.bytes is.each, bytes_back name.bytes) refl

pub name_written : (name : NetbiosName) → IsName name → labels_written (labels_of_name name) ≡ written name
name_written name is = ap (λ (found : Option NetbiosName). either_written found (labels_of_name name)) (name_found name is)

-- letters are those of a name
own_labels : (first : List ℕ) (scope : List (List ℕ)) → are_letters first ≡ true
    → first ∷ scope ≡ labels_of_name (record { bytes = bytes_of_letters first; scope = scope })
own_labels first scope is =
    let parts = and_parts (length first == 32) (list_all is_letter first) is in
    let test = parts.0 in
    let long : length first ≡ 32 = grind (arith, nat_tests, test) in
    ap (λ (row : List ℕ). row ∷ scope) (sym (letters_back first parts.1 (omega (arith, long))))

pub found_name : (labels : List (List ℕ)) (name : NetbiosName) → IsDomain labels → name_of_labels labels ≡ Some name
    → IsName name × (labels ≡ labels_of_name name)
found_name [] name domain e = absurd (cc)
found_name (first ∷ scope) name domain e = either (are_letters first) refl e where
  found : NetbiosName
  found = record { bytes = bytes_of_letters first; scope = scope }

  either : (test : Bool) → are_letters first ≡ test → (if test then Some found else None) ≡ Some name
      → IsName name × (first ∷ scope ≡ labels_of_name name)
  either true is e =
      let same : found ≡ name = cc in (
        subst IsName same (letters_are_a_name first scope is domain),
        own_labels first scope is ∙ ap labels_of_name same,
      )
  either false is e = absurd (cc)

-- ---- labels of no name

letter_at : (row : List ℕ) (place : ℕ) → place < length row → list_all is_letter row ≡ true → IsLetter (slice_index row place)
letter_at [] place low h = absurd (omega arith)
letter_at (c ∷ row) zero low h =
    let test = (and_parts (is_letter c) (list_all is_letter row) h).0 in
    let both = and_parts (nat_le 65 c) (nat_le c 80) test in
    let a = both.0 in
    let b = both.1 in
    (grind (arith, nat_tests, a), grind (arith, nat_tests, b))
letter_at (c ∷ row) (suc place) low h =
    letter_at row place (omega arith) (and_parts (is_letter c) (list_all is_letter row) h).1

pub no_name_found : (labels : List (List ℕ)) (place : ℕ) → IsNoName labels place → name_of_labels labels ≡ None
no_name_found _ _ no_first = refl
no_name_found _ _ (wrong_length first rest other) = rw (ne_eqb (length first) 32 other) refl
no_name_found _ _ (non_letter first rest place long at) = either (are_letters first) refl where
  found : NetbiosName
  found = record { bytes = bytes_of_letters first; scope = rest }

  none : Option NetbiosName
  none = None

  either : (test : Bool) → are_letters first ≡ test → (if test then Some found else none) ≡ none
  either true is =
      let parts = and_parts (length first == 32) (list_all is_letter first) is in
      absurd (at.non_letter (letter_at first place at.within parts.1))
  either false is = refl

pub domain_as_it_is : (labels : List (List ℕ)) → IsDomain labels → ((name : NetbiosName) → IsName name → labels ≢ labels_of_name name)
    → labels_written labels ≡ domain_written labels
domain_as_it_is [] domain apart = refl
domain_as_it_is (first ∷ scope) domain apart = either (are_letters first) refl where
  found : NetbiosName
  found = record { bytes = bytes_of_letters first; scope = scope }

  either : (test : Bool) → are_letters first ≡ test
      → either_written (if test then Some found else None) (first ∷ scope) ≡ domain_written (first ∷ scope)
  either true is = absurd (apart found (letters_are_a_name first scope is domain) (own_labels first scope is))
  either false is = refl

-- ---- the text of a domain name

item_is : (b : ℕ) → b < 256 → Item b (item_of b)
item_is b h = either (is_plain b) refl where
  high : digit_value (digit_char (b / 16)) ≡ b / 16
  high = digit_value-digit_char (b / 16) (omega (arith, h))

  low : digit_value (digit_char (b % 16)) ≡ b % 16
  low = digit_value-digit_char (b % 16) (omega arith)

  same : byte_of (digit_char (b / 16)) (digit_char (b % 16)) ≡ b
  same = omega (arith, high, low)

  code : Item b (92 ∷ digits_of b)
  code = rw same at (escaped (digit_char (b / 16)) (digit_char (b % 16)) (omega (arith, high, h)) (omega (arith, low)))

  either : (test : Bool) → is_plain b ≡ test → Item b (if test then b ∷ [] else 92 ∷ digits_of b)
  either true e = plain b e
  either false e = code

items_are : (bytes : List ℕ) → AreBytes bytes → Items bytes (items_of bytes)
items_are [] a = no_item
items_are (b ∷ bytes) a = more_items b bytes (item_of b) (items_of bytes) (item_is b a.0) (items_are bytes a.1)

dotted : (labels : List (List ℕ)) → AllByRecursion IsLabel labels → AreByteLabels labels → ScopeText labels (scope_text_of labels)
dotted [] a b = no_label
dotted (label ∷ labels) a b =
    more_labels label labels (items_of label) (scope_text_of labels) a.0.0 (items_are label b.0) (dotted labels a.1 b.1)

pub domain_dotted : (first : List ℕ) (labels : List (List ℕ)) → IsDomain (first ∷ labels) → AreByteLabels (first ∷ labels)
    → ScopeText (first ∷ labels) (46 ∷ domain_written (first ∷ labels))
domain_dotted first labels domain bytes = dotted (first ∷ labels) domain.each bytes
