-- Fields are words: characters that can be seen, and one at least.
use Rattle.std.proofs.Common.{◌≡◌, ◌==◌, ◌||◌, ◌&&◌, ℕ, zero, suc, ◌+◌, ◌-◌, ◌*◌, ◌/◌, ◌%◌, ◌<◌, ◌≤◌, nat_lt, nat_le, Bool, true, false, if◌then◌else◌, List, [], ◌∷◌, ◌++◌, length, take, slice_index, Some, None, refl, arith, codes}
use Rattle.std.specs.List.{AllByRecursion, flat_map, list_all}
use Rattle.std.specs.Char.{digit_char, is_ascii_graphic}
use Rattle.std.specs.Fmt.{decimal, digits, digit_glyph, digits_onto}
use Rattle.std.specs.Int.{w16, to_be_bytes}
use Rattle.std.proofs.lemmas.Bool.{and_parts}
use Rattle.std.proofs.lemmas.Bool.Decides.{nat_tests}
use Rattle.std.proofs.lemmas.List.{length-append}
use Rattle.nb_streams.specs.Addresses.{address_text}
use Rattle.nb_names.specs.DomainName.{IsLabel, IsDomain, AreByteLabels}
use Rattle.nb_streams.specs.PacketFacts.{All-take, byte_below}
use Rattle.nb_streams.specs.Places.{AreBytes}
use Rattle.nb_streams.specs.Hexadecimal.{data_text, digits_text, word_text, digits_of}
use Rattle.nb_names.specs.Name.{NetbiosName, IsName, IsByteName}
use Rattle.nb_names.specs.NameText.{is_plain, item_of, items_of, scope_text_of, kept_before, trimmed, domain_written, is_letter, are_letters, bytes_of_letters, either_written, labels_written, written}
use Rattle.nb_names.proofs.NameLemmas.{IsScope-rest}
use Rattle.nb_service.proofs.EncodingLemmas.{all_append}
use Rattle.nb_datagram.specs.declared.key.Key.{Key}
use Rattle.nb_datagram.specs.FaultTexts.{key_text}
use Rattle.nb_text.specs.Fields.{IsVisible, IsWord}
use Rattle.nb_telling.specs.Texts.{added_names, joined}
use Rattle.nb_text.specs.Views.{name_flags}
use Rattle.nb_text.specs.Words.{Flag, is_set, names_set, packet_flags, set_text}

-- a row of characters that can be seen
abbrev pub IsSeen : List ℕ → Type 0
IsSeen = AllByRecursion IsVisible

-- ---- rows

pub all-split : {A : Type 0} (P : A → Type 0) (xs ys : List A) → AllByRecursion P (xs ++ ys) → AllByRecursion P xs × AllByRecursion P ys
all-split P [] ys a = (tt, a)
all-split P (x ∷ xs) ys a = let rest = all-split P xs ys a.1 in ((a.0, rest.0), rest.1)

pub all_flat : {A : Type 0} (P : A → Type 0) (Q : ℕ → Type 0) (f : A → List ℕ) (xs : List A) → AllByRecursion P xs
    → ((x : A) → P x → AllByRecursion Q (f x)) → AllByRecursion Q (flat_map f xs)
all_flat {A} P Q f [] h each = tt
all_flat {A} P Q f (x ∷ xs) h each = all_append Q (f x) (flat_map f xs) (each x h.0) (all_flat P Q f xs h.1 each)

pub seen-append : (xs ys : List ℕ) → IsSeen xs → IsSeen ys → IsSeen (xs ++ ys)
seen-append xs ys a b = all_append IsVisible xs ys a b

pub bytes-take : (n : ℕ) (xs : List ℕ) → AreBytes xs → AreBytes (take n xs)
bytes-take = All-take (λ (b : ℕ). b < 256)

-- a byte, or zero past the end
pub byte_at : (bytes : List ℕ) (i : ℕ) → AreBytes bytes → slice_index bytes i < 256
byte_at bytes i h = byte_below bytes h i

pub some-append : (xs ys : List ℕ) → 0 < length ys → 0 < length (xs ++ ys)
some-append xs ys some = omega (arith, some, length-append xs ys)

some-front : (xs ys : List ℕ) → 0 < length xs → 0 < length (xs ++ ys)
some-front xs ys some = omega (arith, some, length-append xs ys)

-- ---- characters

graphic : (c : ℕ) → is_ascii_graphic c ≡ true → IsVisible c
graphic c h =
    let low : 33 ≤ c = grind (arith, nat_tests) in
    let high : c ≤ 126 = grind (arith, nat_tests) in
    (low, high)

pub graphic_row : (cs : List ℕ) → list_all is_ascii_graphic cs ≡ true → IsSeen cs
graphic_row [] h = tt
graphic_row (c ∷ cs) h =
    let parts = and_parts (is_ascii_graphic c) (list_all is_ascii_graphic cs) h in
    (graphic c parts.0, graphic_row cs parts.1)

-- whether a word is written out
abbrev pub is_literal : List ℕ → Bool
is_literal cs = nat_lt 0 (length cs) && list_all is_ascii_graphic cs

-- a word that is
pub literal : (cs : List ℕ) → is_literal cs ≡ true → IsWord cs
literal cs h =
    let parts = and_parts (nat_lt 0 (length cs)) (list_all is_ascii_graphic cs) h in
    let test = parts.0 in
    let some : 0 < length cs = grind (arith, nat_tests, test) in
    (some, graphic_row cs parts.1)

plain_seen : (b : ℕ) → is_plain b ≡ true → IsVisible b
plain_seen b p = either (b == 46 || b == 60 || b == 62 || b == 92) p where
  either : (test : Bool) → (if test then false else is_ascii_graphic b) ≡ true → IsVisible b
  either true q = absurd (cc)
  either false q = graphic b q

digit_seen : (half : ℕ) → half < 16 → IsVisible (digit_char half)
digit_seen half h =
    let low : 33 ≤ digit_char half = grind (arith, nat_tests) in
    let high : digit_char half ≤ 126 = grind (arith, nat_tests) in
    (low, high)

pub digits_seen : (b : ℕ) → b < 256 → IsSeen (digits_of b)
digits_seen b h =
    let high : b / 16 < 16 = omega (arith, h) in
    let low : b % 16 < 16 = omega arith in
    (digit_seen (b / 16) high, (digit_seen (b % 16) low, tt))

-- ---- numbers, however long

glyph_seen : (d : ℕ) → d < 10 → IsVisible (digit_glyph false d)
glyph_seen d h =
    let low : 33 ≤ digit_glyph false d = grind (arith, nat_tests) in
    let high : digit_glyph false d ≤ 126 = grind (arith, nat_tests) in
    (low, high)

-- a digit in front
digit_more : (n : ℕ) (acc : List ℕ) → IsSeen acc → IsWord (digit_glyph false (n % 10) ∷ acc)
digit_more n acc h = (omega arith, (glyph_seen (n % 10) (omega arith), h))

onto_more : (k n : ℕ) (acc : List ℕ) → IsSeen acc → IsWord (digits_onto k 10 false (n / 10) (digit_glyph false (n % 10) ∷ acc))
    → IsWord (digits_onto (suc k) 10 false n acc)
onto_more k n acc h rest = either (n / 10 == 0) where
  either : (test : Bool)
      → IsWord (if test then digit_glyph false (n % 10) ∷ acc else digits_onto k 10 false (n / 10) (digit_glyph false (n % 10) ∷ acc))
  either true = digit_more n acc h
  either false = rest

onto_word : (k n : ℕ) (acc : List ℕ) → IsWord acc → IsWord (digits_onto k 10 false n acc)
onto_word zero n acc h = h
onto_word (suc k) n acc h =
    onto_more k n acc h.1 (onto_word k (n / 10) (digit_glyph false (n % 10) ∷ acc) (digit_more n acc h.1))

pub number_word : (n : ℕ) → IsWord (decimal n)
unfolding digits
number_word n = onto_more 63 n [] tt (onto_word 63 (n / 10) (digit_glyph false (n % 10) ∷ []) (digit_more n [] tt))

-- ---- data

pub data_seen : (bytes : List ℕ) → AreBytes bytes → IsSeen (digits_text bytes)
data_seen bytes h = all_flat (λ (b : ℕ). b < 256) IsVisible digits_of bytes h digits_seen

pub data_word : (bytes : List ℕ) → AreBytes bytes → IsWord (data_text bytes)
data_word [] h = literal (codes "empty") refl
data_word (b ∷ bytes) h =
    let some : 0 < length (digits_text (b ∷ bytes)) = omega arith in
    (some, data_seen (b ∷ bytes) h)

pub word_seen : (n : ℕ) → IsSeen (word_text n)
word_seen n =
    let high : n / 256 % 256 < 256 = omega arith in
    let low : n % 256 < 256 = omega arith in
    data_seen (to_be_bytes w16 n) (high, (low, tt))

pub word_word : (n : ℕ) → IsWord (word_text n)
word_word n = (omega arith, word_seen n)

-- ---- names

byte_seen : (b : ℕ) → b < 256 → IsSeen (item_of b)
byte_seen b h = either (is_plain b) refl where
  either : (test : Bool) → is_plain b ≡ test → IsSeen (if test then b ∷ [] else 92 ∷ digits_of b)
  either true p = (plain_seen b p, tt)
  either false p = (graphic 92 refl, digits_seen b h)

some_item : (b : ℕ) → 0 < length (item_of b)
some_item b = either (is_plain b) where
  either : (test : Bool) → 0 < length (if test then b ∷ [] else 92 ∷ digits_of b)
  either true = omega arith
  either false = omega arith

bytes_seen : (label : List ℕ) → AreBytes label → IsSeen (items_of label)
bytes_seen label h = all_flat (λ (b : ℕ). b < 256) IsVisible item_of label h byte_seen

pub some_items : (label : List ℕ) → 0 < length label → 0 < length (items_of label)
some_items [] none = absurd (omega (arith, none))
some_items (b ∷ label) some = some-front (item_of b) (items_of label) (some_item b)

labels_seen : (labels : List (List ℕ)) → AreByteLabels labels → IsSeen (scope_text_of labels)
labels_seen labels h =
    all_flat AreBytes IsVisible (λ (label : List ℕ). 46 ∷ items_of label) labels h (λ label bytes. (graphic 46 refl, bytes_seen label bytes))

bytes-kept : (b : ℕ) (kept : List ℕ) → b < 256 → AreBytes kept → AreBytes (kept_before b kept)
bytes-kept b (k ∷ kept) h a = (h, a)
bytes-kept b [] h a = either (b == 32) where
  either : (test : Bool) → AreBytes (if test then [] else b ∷ [])
  either true = tt
  either false = (h, tt)

bytes-trimmed : (bytes : List ℕ) → AreBytes bytes → AreBytes (trimmed bytes)
bytes-trimmed [] a = tt
bytes-trimmed (b ∷ bytes) a = bytes-kept b (trimmed bytes) a.0 (bytes-trimmed bytes a.1)

-- a name of bytes
pub written_word : (name : NetbiosName) → AreBytes name.bytes → AreByteLabels name.scope → IsWord (written name)
written_word name a scope =
    let front = items_of (trimmed (take 15 name.bytes)) in
    let last = 60 ∷ digits_of (slice_index name.bytes 15) in
    let kept = bytes_seen (trimmed (take 15 name.bytes)) (bytes-trimmed (take 15 name.bytes) (bytes-take 15 name.bytes a)) in
    let code = digits_seen (slice_index name.bytes 15) (byte_at name.bytes 15 a) in
    let seen = seen-append (front ++ last) (62 ∷ []) (seen-append front last kept (graphic 60 refl, code)) (graphic 62 refl, tt) in (
      some-front ((front ++ last) ++ 62 ∷ []) (scope_text_of name.scope) (some-append (front ++ last) (62 ∷ []) (omega arith)),
      seen-append ((front ++ last) ++ 62 ∷ []) (scope_text_of name.scope) seen (labels_seen name.scope scope),
    )

pub name_word : (name : NetbiosName) → IsByteName name → IsWord (written name)
name_word name h = written_word name h.0.each h.1

pub domain_word : (labels : List (List ℕ)) → AllByRecursion IsLabel labels → AreByteLabels labels → IsWord (domain_written labels)
domain_word [] each bytes = literal (46 ∷ []) refl
domain_word (label ∷ labels) each bytes =
    let some : 0 < length label = each.0.0 in (
      some-front (items_of label) (scope_text_of labels) (some_items label some),
      seen-append (items_of label) (scope_text_of labels) (bytes_seen label bytes.0) (labels_seen labels bytes.1),
    )

-- letters give half as many bytes
halves : (letters : List ℕ) → length (bytes_of_letters letters) * 2 + length letters % 2 ≡ length letters
halves [] = refl
halves (high ∷ []) = refl
halves (high ∷ low ∷ letters) = let rest = halves letters in omega (arith, rest)

half_small : (byte : ℕ) → is_letter byte ≡ true → byte - 65 < 16
half_small byte h =
    let parts = and_parts (nat_le 65 byte) (nat_le byte 80) h in
    let test = parts.1 in
    let below : byte ≤ 80 = grind (arith, nat_tests, test) in
    omega (arith, below)

letters_small : (letters : List ℕ) → list_all is_letter letters ≡ true → AreBytes (bytes_of_letters letters)
letters_small [] h = tt
letters_small (high ∷ []) h = tt
letters_small (high ∷ low ∷ letters) h =
    let one = and_parts (is_letter high) (is_letter low && list_all is_letter letters) h in
    let two = and_parts (is_letter low) (list_all is_letter letters) one.1 in
    let upper : high - 65 < 16 = half_small high one.0 in
    let lower : low - 65 < 16 = half_small low two.0 in
    let small : (high - 65) * 16 + (low - 65) < 256 = omega (arith, upper, lower) in
    (small, letters_small letters two.1)

-- labels of which the first is letters are a name's
pub letters_are_a_name : (first : List ℕ) (scope : List (List ℕ)) → are_letters first ≡ true → IsDomain (first ∷ scope)
    → IsName (record { bytes = bytes_of_letters first; scope = scope })
letters_are_a_name first scope h domain =
    let parts = and_parts (length first == 32) (list_all is_letter first) h in
    let test = parts.0 in
    let long : length first ≡ 32 = grind (arith, nat_tests, test) in
    let half = halves first in
    let sixteen : length (bytes_of_letters first) ≡ 16 = omega (arith, long, half) in
    record { sixteen = sixteen; each = letters_small first parts.1; scope = IsScope-rest (first ∷ scope) first scope refl long domain }

pub letters_name : (first : List ℕ) (scope : List (List ℕ)) → are_letters first ≡ true → IsDomain (first ∷ scope) → AreByteLabels scope
    → IsByteName (record { bytes = bytes_of_letters first; scope = scope })
letters_name first scope h domain bytes = (letters_are_a_name first scope h domain, bytes)

pub labels_word : (labels : List (List ℕ)) → IsDomain labels → AreByteLabels labels → IsWord (labels_written labels)
labels_word [] domain bytes = literal (46 ∷ []) refl
labels_word (first ∷ scope) domain bytes = either (are_letters first) refl where
  either : (test : Bool) → are_letters first ≡ test
      → IsWord (either_written (if test then Some (record { bytes = bytes_of_letters first; scope = scope }) else None) (first ∷ scope))
  either true h = name_word (record { bytes = bytes_of_letters first; scope = scope }) (letters_name first scope h domain bytes.1)
  either false h = domain_word (first ∷ scope) domain.each bytes

-- ---- keys

-- a word, a character, and more of them
marked : (mark : ℕ) (xs ys : List ℕ) → is_ascii_graphic mark ≡ true → IsWord xs → IsWord ys → IsWord (xs ++ mark ∷ ys)
marked mark xs ys h a b = (some-front xs (mark ∷ ys) a.0, seen-append xs (mark ∷ ys) a.1 (graphic mark h, b.1))

pub address_word : (ip : List ℕ) → IsWord (address_text ip)
address_word ip =
    let part : (i : ℕ) → IsWord (decimal (slice_index ip i)) = λ i. number_word (slice_index ip i) in
    let d = decimal (slice_index ip 3) in
    let cd = decimal (slice_index ip 2) ++ 46 ∷ d in
    let bcd = decimal (slice_index ip 1) ++ 46 ∷ cd in
    marked 46 (decimal (slice_index ip 0)) bcd refl (part 0)
    (marked 46 (decimal (slice_index ip 1)) cd refl (part 1) (marked 46 (decimal (slice_index ip 2)) d refl (part 2) (part 3)))

pub key_word : (key : Key) → IsWord (key_text key)
key_word key =
    marked 58 (address_text key.ip) (decimal key.port ++ 47 ∷ word_text key.id) refl (address_word key.ip)
    (marked 47 (decimal key.port) (word_text key.id) refl (number_word key.port) (omega arith, word_seen key.id))

-- ---- sets of flags

added_seen : (names : List (List ℕ)) → AllByRecursion IsWord names → IsSeen (added_names names)
added_seen names h = all_flat IsWord IsVisible (λ (name : List ℕ). 43 ∷ name) names h (λ name word. (graphic 43 refl, word.1))

joined_word : (names : List (List ℕ)) → AllByRecursion IsWord names → IsWord (joined names)
joined_word [] h = literal (codes "none") refl
joined_word (name ∷ names) h =
    let first = h.0 in
    (some-front name (added_names names) first.0, seen-append name (added_names names) first.1 (added_seen names h.1))

set_words : (flags : List Flag) (word : ℕ) → list_all (λ (f : Flag). is_literal f.name) flags ≡ true
    → AllByRecursion IsWord (names_set flags word)
set_words [] word h = tt
set_words (f ∷ flags) word h = either (is_set word f.bit) (set_words flags word parts.1) where
  parts : (is_literal f.name ≡ true) × (list_all (λ (g : Flag). is_literal g.name) flags ≡ true)
  parts = and_parts (is_literal f.name) (list_all (λ (g : Flag). is_literal g.name) flags) h

  either : (test : Bool) → AllByRecursion IsWord (names_set flags word)
      → AllByRecursion IsWord (if test then f.name ∷ names_set flags word else names_set flags word)
  either true rest = (literal f.name parts.0, rest)
  either false rest = rest

pub packet_set_word : (word : ℕ) → IsWord (set_text packet_flags word)
packet_set_word word = joined_word (names_set packet_flags word) (set_words packet_flags word refl)

pub name_set_word : (word : ℕ) → IsWord (set_text name_flags word)
name_set_word word = joined_word (names_set name_flags word) (set_words name_flags word refl)
