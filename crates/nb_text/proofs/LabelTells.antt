-- The text of labels tells them, whether it is a NetBIOS name's or a domain name's.
use Rattle.std.proofs.Common.{◌≡◌, ◌≢◌, ◌==◌, ◌&&◌, ◌⊎◌, inl, inr, ℕ, ◌+◌, ◌-◌, ◌*◌, ◌/◌, ◌%◌, ◌<◌, ◌≤◌, nat_le, Bool, true, false, if◌then◌else◌, List, [], ◌∷◌, ◌++◌, length, take, slice_index, Some, None, refl, sym, subst, ap, ◌∙◌, arith}
use Rattle.std.specs.List.{AllByRecursion, list_all}
use Rattle.std.specs.Char.{digit_char}
use Rattle.std.proofs.lemmas.Bool.{and_parts}
use Rattle.std.proofs.lemmas.Bool.Decides.{nat_tests}
use Rattle.nb_names.specs.DomainName.{IsLabel, AreByteLabels}
use Rattle.nb_streams.specs.Places.{AreBytes}
use Rattle.nb_names.specs.FirstLevel.{letter, letters}
use Rattle.nb_names.specs.Name.{NetbiosName, IsByteName, labels_of_name}
use Rattle.nb_names.specs.NameText.{is_plain, item_of, items_of, scope_text_of, domain_written, is_letter, are_letters, bytes_of_letters, either_written, labels_written, trimmed, written}
use Rattle.nb_streams.specs.Hexadecimal.{digits_of}
use Rattle.nb_service.proofs.EncodingLemmas.{all_append}
use Rattle.nb_text.proofs.FieldLemmas.{all-split, all_flat, some_items, labels_word, letters_name}
use Rattle.nb_text.proofs.ViewLemmas.{AreLabels}
use Rattle.nb_text.proofs.TellLemmas.{amid, all_weaker, cut, EndsRow, Tells, seen_tells}
use Rattle.nb_text.proofs.FieldTells.{byte_same, name_same}

-- ---- items

-- an item has neither `.` nor `<`
abbrev IsItemByte : ℕ → Type 0
IsItemByte c = (c ≢ 46) × (c ≢ 60)

digit_item : (half : ℕ) → half < 16 → IsItemByte (digit_char half)
digit_item half h =
    let dot : digit_char half ≢ 46 = grind (arith, nat_tests) in
    let less : digit_char half ≢ 60 = grind (arith, nat_tests) in
    (dot, less)

plain_item : (b : ℕ) → is_plain b ≡ true → IsItemByte b
plain_item b p = (
  λ e. let at : is_plain 46 ≡ true = subst (λ (c : ℕ). is_plain c ≡ true) e p in cc,
  λ e. let at : is_plain 60 ≡ true = subst (λ (c : ℕ). is_plain c ≡ true) e p in cc,
)

item_bytes : (b : ℕ) → b < 256 → AllByRecursion IsItemByte (item_of b)
item_bytes b h = either (is_plain b) refl where
  either : (test : Bool) → is_plain b ≡ test → AllByRecursion IsItemByte (if test then b ∷ [] else 92 ∷ digits_of b)
  either true p = (plain_item b p, tt)
  either false p = (
    (λ e. omega (arith, e), λ e. omega (arith, e)),
    (digit_item (b / 16) (omega (arith, h)), (digit_item (b % 16) (omega arith), tt)),
  )

items_bytes : (label : List ℕ) → AreBytes label → AllByRecursion IsItemByte (items_of label)
items_bytes label h = all_flat (λ (b : ℕ). b < 256) IsItemByte item_of label h item_bytes

-- a character other than `<`
abbrev IsOther : ℕ → Type 0
IsOther c = c ≢ 60

items_other : (label : List ℕ) → AreBytes label → AllByRecursion IsOther (items_of label)
items_other label a = all_weaker IsItemByte IsOther (items_of label) (items_bytes label a) (λ c is. is.1)

-- an item tells its byte, whatever follows
item_then : (a b : ℕ) (r s : List ℕ) → a < 256 → b < 256 → item_of a ++ r ≡ item_of b ++ s → (a ≡ b) × (r ≡ s)
item_then a b r s x y = either (is_plain a) (is_plain b) refl refl where
  either : (p q : Bool) → is_plain a ≡ p → is_plain b ≡ q
      → (if p then a ∷ [] else 92 ∷ digits_of a) ++ r ≡ (if q then b ∷ [] else 92 ∷ digits_of b) ++ s → (a ≡ b) × (r ≡ s)
  either true true p q e = (cc, cc)
  either true false p q e =
      let same : a ≡ 92 = cc in
      let at : is_plain 92 ≡ true = subst (λ (c : ℕ). is_plain c ≡ true) same p in
      absurd (cc)
  either false true p q e =
      let same : b ≡ 92 = cc in
      let at : is_plain 92 ≡ true = subst (λ (c : ℕ). is_plain c ≡ true) same q in
      absurd (cc)
  either false false p q e = (byte_same a b x y (cc) (cc), cc)

no_item : (b : ℕ) (r : List ℕ) → [] ≡ item_of b ++ r → ⊥
no_item b r = either (is_plain b) where
  either : (test : Bool) → [] ≡ (if test then b ∷ [] else 92 ∷ digits_of b) ++ r → ⊥
  either true e = cc
  either false e = cc

items_same : (xs ys : List ℕ) → AreBytes xs → AreBytes ys → items_of xs ≡ items_of ys → xs ≡ ys
items_same [] [] a b e = refl
items_same [] (y ∷ ys) a b e = absurd (no_item y (items_of ys) e)
items_same (x ∷ xs) [] a b e = absurd (no_item x (items_of xs) (sym e))
items_same (x ∷ xs) (y ∷ ys) a b e =
    let first = item_then x y (items_of xs) (items_of ys) a.0 b.0 e in
    let one = first.0 in
    let rest = items_same xs ys a.1 b.1 first.1 in
    cc

-- ---- domain names

scope_ends : (labels : List (List ℕ)) → EndsRow IsItemByte (scope_text_of labels)
scope_ends [] = tt
scope_ends (label ∷ labels) = λ h. h.0 refl

scope_same : (xs ys : List (List ℕ)) → AreByteLabels xs → AreByteLabels ys → scope_text_of xs ≡ scope_text_of ys → xs ≡ ys
scope_same [] [] a b e = refl
scope_same [] (y ∷ ys) a b e = absurd (cc)
scope_same (x ∷ xs) [] a b e = absurd (cc)
scope_same (x ∷ xs) (y ∷ ys) a b e =
    let parts = cut IsItemByte (items_of x) (items_of y) (scope_text_of xs) (scope_text_of ys) (items_bytes x a.0) (items_bytes y b.0)
    (scope_ends xs) (scope_ends ys) (cc) in
    let first = items_same x y a.0 b.0 parts.0 in
    let rest = scope_same xs ys a.1 b.1 parts.1 in
    cc

-- a label's text doesn't begin with `.`
other_front : (xs more : List ℕ) → 0 < length xs → AllByRecursion IsItemByte xs → 46 ∷ [] ≡ xs ++ more → ⊥
other_front [] more some a e = omega (arith, some)
other_front (x ∷ xs) more some a e = let same : x ≡ 46 = cc in a.0.0 same

no_dot : (label more : List ℕ) → 0 < length label → AreBytes label → 46 ∷ [] ≡ items_of label ++ more → ⊥
no_dot label more some a e = other_front (items_of label) more (some_items label some) (items_bytes label a) e

domain_same : (xs ys : List (List ℕ)) → AllByRecursion IsLabel xs → AllByRecursion IsLabel ys → AreByteLabels xs → AreByteLabels ys
    → domain_written xs ≡ domain_written ys → xs ≡ ys
domain_same [] [] p q a b e = refl
domain_same [] (y ∷ ys) p q a b e = absurd (no_dot y (scope_text_of ys) q.0.0 b.0 e)
domain_same (x ∷ xs) [] p q a b e = absurd (no_dot x (scope_text_of xs) p.0.0 a.0 (sym e))
domain_same (x ∷ xs) (y ∷ ys) p q a b e = scope_same (x ∷ xs) (y ∷ ys) a b (ap (λ (t : List ℕ). 46 ∷ t) e)

-- ---- a name's labels

letter_back : (high low : ℕ) → is_letter high ≡ true → is_letter low ≡ true
    → (letter (((high - 65) * 16 + (low - 65)) / 16) ≡ high) × (letter (((high - 65) * 16 + (low - 65)) % 16) ≡ low)
letter_back high low h l =
    let upper = and_parts (nat_le 65 high) (nat_le high 80) h in
    let lower = and_parts (nat_le 65 low) (nat_le low 80) l in
    let a = upper.0 in
    let b = lower.0 in
    let c = lower.1 in
    let from : 65 ≤ high = grind (arith, nat_tests, a) in
    let least : 65 ≤ low = grind (arith, nat_tests, b) in
    let most : low ≤ 80 = grind (arith, nat_tests, c) in
    (omega (arith, from, least, most), omega (arith, from, least, most))

-- letters are those of the bytes that they stand for
pub letters_back : (row : List ℕ) → list_all is_letter row ≡ true → length row % 2 ≡ 0 → letters (bytes_of_letters row) ≡ row
letters_back [] h even = refl
letters_back (high ∷ []) h even = absurd (omega (arith, even))
letters_back (high ∷ low ∷ row) h even =
    let one = and_parts (is_letter high) (is_letter low && list_all is_letter row) h in
    let two = and_parts (is_letter low) (list_all is_letter row) one.1 in
    let both = letter_back high low one.0 two.0 in
    let first = both.0 in
    let second = both.1 in
    let rest = letters_back row two.1 (omega (arith, even)) in
    cc

-- WrittenAs labels: in which form the labels are written
abbrev WrittenAs : List (List ℕ) → Type 0
WrittenAs labels =
    ((name : NetbiosName) × IsByteName name × (labels_of_name name ≡ labels) × (labels_written labels ≡ written name))
    ⊎ (labels_written labels ≡ domain_written labels)

written_as : (labels : List (List ℕ)) → AreLabels labels → WrittenAs labels
written_as [] h = inr refl
written_as (first ∷ scope) h = either (are_letters first) refl where
  name : NetbiosName
  name = record { bytes = bytes_of_letters first; scope = scope }

  either : (test : Bool) → are_letters first ≡ test → WrittenAs (first ∷ scope)
  either true is =
      let parts = and_parts (length first == 32) (list_all is_letter first) is in
      let test = parts.0 in
      let long : length first ≡ 32 = grind (arith, nat_tests, test) in
      let back = letters_back first parts.1 (omega (arith, long)) in
      inl (
        name,
        letters_name first scope is h.0 h.1.1,
        ap (λ (row : List ℕ). row ∷ scope) back,
        ap (λ (test : Bool). either_written (if test then Some name else None) (first ∷ scope)) is,
      )
  either false is = inr (ap (λ (test : Bool). either_written (if test then Some name else None) (first ∷ scope)) is)

-- a domain name's text has no `<`
domain_other : (labels : List (List ℕ)) → AreByteLabels labels → AllByRecursion IsOther (domain_written labels)
domain_other [] a = (λ e. omega (arith, e), tt)
domain_other (label ∷ labels) a =
    all_append IsOther (items_of label) (scope_text_of labels) (items_other label a.0)
    (all_flat AreBytes IsOther (λ (row : List ℕ). 46 ∷ items_of row) labels a.1 (λ row bytes. (λ e. omega (arith, e), items_other row bytes)))

-- and a name's has one
names_apart : (name : NetbiosName) (labels : List (List ℕ)) → AreByteLabels labels → written name ≡ domain_written labels → ⊥
names_apart name labels a e =
    let all : AllByRecursion IsOther (written name) = subst (AllByRecursion IsOther) (sym e) (domain_other labels a) in
    let front = items_of (trimmed (take 15 name.bytes)) in
    let digits = digits_of (slice_index name.bytes 15) in
    amid IsOther front digits 60
    (all-split IsOther (front ++ 60 ∷ digits) (62 ∷ [])
    (all-split IsOther ((front ++ 60 ∷ digits) ++ 62 ∷ []) (scope_text_of name.scope) all).0).0
    refl

pub labels_same : (xs ys : List (List ℕ)) → AreLabels xs → AreLabels ys → labels_written xs ≡ labels_written ys → xs ≡ ys
labels_same xs ys a b e =
    elim (written_as xs a) [
      | inl x ↦ elim (written_as ys b) [
        | inl y ↦
            let same = name_same x.0 y.0 x.1 y.1 (sym x.3 ∙ e ∙ y.3) in
            sym x.2 ∙ ap labels_of_name same ∙ y.2
        | inr y ↦ absurd (names_apart x.0 ys b.1 (sym x.3 ∙ e ∙ y))
      ]
      | inr x ↦ elim (written_as ys b) [
        | inl y ↦ absurd (names_apart y.0 xs a.1 (sym y.3 ∙ sym e ∙ x))
        | inr y ↦ domain_same xs ys a.0.each b.0.each a.1 b.1 (sym x ∙ e ∙ y)
      ]
    ]

pub labels_tell : (xs ys : List (List ℕ)) → AreLabels xs → AreLabels ys → Tells (labels_written xs) (labels_written ys) (xs ≡ ys)
labels_tell xs ys a b =
    seen_tells (labels_written xs) (labels_written ys) (labels_word xs a.0 a.1).1 (labels_word ys b.0 b.1).1 (labels_same xs ys a b)
