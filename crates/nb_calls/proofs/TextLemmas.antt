-- Texts of names are ASCII, so what isn't UTF-8 leaves their form.
use Rattle.nb_calls.proofs.Common.{◌≡◌, ◌⊎◌, inl, inr, ℕ, ◌<◌, ◌≤◌, List, [], ◌∷◌, ◌++◌, length, take, sym, subst, arith, cases_lt, nat_tests, take-take, length-take-le, append-nil, IsHexDigit, Item, plain, escaped, Items, no_item, more_items, ScopeText, no_label, more_labels, IsFormed, IsFront, IsBad, take-append_seam}
use Rattle.std.specs.Str.{IsAscii, IsUtf8, IsValidUpTo}
use Rattle.std.proofs.lemmas.Str.{IsUtf8-from_ascii, IsAscii-append, IsAscii-take}
use Rattle.std.proofs.lemmas.Str.Ascii.{IsAscii-nil, IsAscii-cons}
use Rattle.nb_names.proofs.PushingLemmas.{plain_one}

hex_ascii : (d : ℕ) → IsHexDigit d → d < 128
hex_ascii d h = grind (arith, nat_tests)

item_ascii : (byte : ℕ) (text : List ℕ) → Item byte text → IsAscii text
item_ascii byte _ (plain _ p) = plain_one byte p
item_ascii _ _ (escaped high low h l) =
    IsAscii-cons 92 (high ∷ low ∷ []) (omega arith) (IsAscii-cons high (low ∷ []) (hex_ascii high h) (IsAscii-cons low [] (hex_ascii low l) IsAscii-nil))

items_ascii : (bytes text : List ℕ) → Items bytes text → IsAscii text
items_ascii _ _ no_item = IsAscii-nil
items_ascii _ _ (more_items byte bytes item items first rest) =
    IsAscii-append item items (item_ascii byte item first) (items_ascii bytes items rest)

scope_ascii : (labels : List (List ℕ)) (text : List ℕ) → ScopeText labels text → IsAscii text
scope_ascii _ _ no_label = IsAscii-nil
scope_ascii _ _ (more_labels label labels items text some first rest) =
    IsAscii-cons 46 (items ++ text) (omega arith) (IsAscii-append items text (items_ascii label items first) (scope_ascii labels text rest))

formed_ascii : (text : List ℕ) → IsFormed text → IsAscii text
formed_ascii text (parts, form) =
    let digits = IsAscii-cons form.high (form.low ∷ 62 ∷ form.behind) (hex_ascii form.high form.high_digit)
    (IsAscii-cons form.low (62 ∷ form.behind) (hex_ascii form.low form.low_digit)
    (IsAscii-cons 62 form.behind (omega arith) (scope_ascii parts.scope form.behind form.scope))) in
    subst IsAscii (sym form.whole) (IsAscii-append form.items (60 ∷ form.high ∷ form.low ∷ 62 ∷ form.behind)
    (items_ascii parts.front form.items form.front) (IsAscii-cons 60 (form.high ∷ form.low ∷ 62 ∷ form.behind) (omega arith) digits))

-- a text of the form is UTF-8
pub formed_utf8 : (text : List ℕ) → IsFormed text → IsUtf8 text
formed_utf8 text h = IsUtf8-from_ascii text (formed_ascii text h)

front_utf8 : (text : List ℕ) (count : ℕ) → IsFront text count → IsUtf8 (take count text)
front_utf8 text count (rest, formed) =
    let front = take count text in
    IsUtf8-from_ascii front (subst IsAscii (take-append_seam front rest) (IsAscii-take (front ++ rest) (length front) (formed_ascii (front ++ rest) formed)))

none_past : (text : List ℕ) (valid count : ℕ) → IsValidUpTo text valid → valid < count → ¬ IsFront text count
none_past text valid count v past front = v.longest count past (front_utf8 text count front)

-- a text that is UTF-8 up to a place, and there has a fault, has it
pub bad_front : (text : List ℕ) (valid place : ℕ) → IsValidUpTo text valid → IsBad (take valid text) place → IsBad text place
bad_front text valid place v bad =
    let short = v.short in
    let size : length (take valid text) ≡ valid = length-take-le valid text (omega (arith, short)) in
    let low : place ≤ valid = omega (arith, size, bad.within) in
    record {
      within = omega (arith, low, short);
      front = subst (λ (front : List ℕ). (rest : List ℕ) × IsFormed (front ++ rest)) (take-take place valid text low) bad.front;
      longest = λ count past within. either count past (cases_lt valid count);
    } where
      either : (count : ℕ) → place < count → (valid < count) ⊎ (count ≤ valid) → ¬ IsFront text count
      either count past (inl more) = none_past text valid count v more
      either count past (inr less) = λ front.
          bad.longest count past (omega (arith, length-take-le valid text (omega (arith, v.short)), less))
          (subst (λ (front : List ℕ). (rest : List ℕ) × IsFormed (front ++ rest)) (sym (take-take count valid text less)) front)

-- a text that is UTF-8 up to a place, and has the form there, leaves it at that place
pub bad_end : (text : List ℕ) (valid : ℕ) → IsValidUpTo text valid → IsFormed (take valid text) → IsBad text valid
bad_end text valid v formed =
    let short = v.short in
    record {
      within = omega (arith, short);
      front = ([], subst IsFormed (sym (append-nil (take valid text))) formed);
      longest = λ count past within. none_past text valid count v past;
    }
