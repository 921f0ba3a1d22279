-- Fields tell what they show: equal texts are of equal values.
use Rattle.std.proofs.Common.{◌≡◌, ℕ, ◌/◌, ◌%◌, ◌<◌, ◌^◌, List, [], ◌∷◌, ◌++◌, length, slice_index, refl, sym, subst, ap, ◌∙◌, append_assoc, arith, codes}
use Rattle.std.specs.List.{AllByRecursion}
use Rattle.std.specs.Char.{digit_char, digit_value}
use Rattle.std.specs.Fmt.{decimal}
use Rattle.std.proofs.lemmas.Bool.Decides.{nat_tests}
use Rattle.std.proofs.lemmas.Fmt.{decimal_is_IsNumeral, decimal_injective}
use Rattle.std.proofs.lemmas.Str.{digit_value-digit_char}
use Rattle.nb_streams.specs.Addresses.{address_text}
use Rattle.nb_streams.specs.Places.{AreBytes}
use Rattle.nb_streams.specs.Hexadecimal.{data_text, digits_text, word_text, digits_of}
use Rattle.nb_names.specs.Name.{NetbiosName, IsByteName}
use Rattle.nb_names.specs.NameText.{IsText, written}
use Rattle.nb_names.proofs.PartsLemmas.{one_name_of}
use Rattle.nb_names.proofs.WrittenLemmas.{written-text}
use Rattle.nb_datagram.specs.declared.key.Key.{Key}
use Rattle.nb_datagram.specs.Header.{IsKey}
use Rattle.nb_datagram.specs.FaultTexts.{key_text}
use Rattle.nb_text.proofs.FieldLemmas.{byte_at, data_word, name_word, number_word, address_word, key_word}
use Rattle.nb_text.proofs.TellLemmas.{cut, Tells, seen_tells}

-- ---- numbers

-- a digit of a number in decimal
abbrev pub IsDigit : ℕ → Type 0
IsDigit c = digit_value c < 10

number_digits : (n : ℕ) → n < 2 ^ 64 → AllByRecursion IsDigit (decimal n)
number_digits n h = (decimal_is_IsNumeral n h).0.1

-- a number, up to a character that is no digit
number_then : (c m n : ℕ) (r s : List ℕ) → ¬ IsDigit c → m < 2 ^ 64 → n < 2 ^ 64 → decimal m ++ c ∷ r ≡ decimal n ++ c ∷ s
    → (m ≡ n) × (r ≡ s)
number_then c m n r s not a b e =
    let parts = cut IsDigit (decimal m) (decimal n) (c ∷ r) (c ∷ s) (number_digits m a) (number_digits n b) not not e in
    let rest = parts.1 in
    (decimal_injective m n a b parts.0, cc)

pub number_tells : (m n : ℕ) → m < 2 ^ 64 → n < 2 ^ 64 → Tells (decimal m) (decimal n) (m ≡ n)
number_tells m n a b = seen_tells (decimal m) (decimal n) (number_word m).1 (number_word n).1 (decimal_injective m n a b)

-- ---- bytes

digit_same : (a b : ℕ) → a < 16 → b < 16 → digit_char a ≡ digit_char b → a ≡ b
digit_same a b p q e =
    sym (digit_value-digit_char a (omega (arith, p))) ∙ ap digit_value e ∙ digit_value-digit_char b (omega (arith, q))

-- the two digits of a byte
pub byte_same : (a b : ℕ) → a < 256 → b < 256 → digit_char (a / 16) ≡ digit_char (b / 16) → digit_char (a % 16) ≡ digit_char (b % 16) → a ≡ b
byte_same a b p q high low =
    let upper = digit_same (a / 16) (b / 16) (omega (arith, p)) (omega (arith, q)) high in
    let lower = digit_same (a % 16) (b % 16) (omega arith) (omega arith) low in
    omega (arith, upper, lower)

pub code_tells : (a b : ℕ) → a < 256 → b < 256 → Tells (digits_of a) (digits_of b) (a ≡ b)
code_tells a b p q = record { told = λ r s _ _ e. (byte_same a b p q (cc) (cc), cc) }

digits_same : (xs ys : List ℕ) → AreBytes xs → AreBytes ys → digits_text xs ≡ digits_text ys → xs ≡ ys
digits_same [] [] a b e = refl
digits_same [] (y ∷ ys) a b e = absurd (cc)
digits_same (x ∷ xs) [] a b e = absurd (cc)
digits_same (x ∷ xs) (y ∷ ys) a b e =
    let first = byte_same x y a.0 b.0 (cc) (cc) in
    let rest = digits_same xs ys a.1 b.1 (cc) in
    cc (first, rest)

-- `empty` has a letter that is no digit
digit_below : (half : ℕ) → half < 16 → digit_char half < 103
digit_below half h = grind (arith, nat_tests)

not_empty : (y : ℕ) (ys : List ℕ) → codes "empty" ≡ digits_text (y ∷ ys) → ⊥
not_empty y ys e =
    let second : 109 ≡ digit_char (y % 16) = cc in
    let below = digit_below (y % 16) (omega arith) in
    omega (arith, second, below)

pub data_same : (xs ys : List ℕ) → AreBytes xs → AreBytes ys → data_text xs ≡ data_text ys → xs ≡ ys
data_same [] [] a b e = refl
data_same [] (y ∷ ys) a b e = absurd (not_empty y ys e)
data_same (x ∷ xs) [] a b e = absurd (not_empty x xs (sym e))
data_same (x ∷ xs) (y ∷ ys) a b e = digits_same (x ∷ xs) (y ∷ ys) a b e

pub data_tells : (xs ys : List ℕ) → AreBytes xs → AreBytes ys → Tells (data_text xs) (data_text ys) (xs ≡ ys)
data_tells xs ys a b =
    seen_tells (data_text xs) (data_text ys) (data_word xs a).1 (data_word ys b).1 (data_same xs ys a b)

-- a number of sixteen bits, whatever follows
pub word_then : (m n : ℕ) (r s : List ℕ) → m < 2 ^ 16 → n < 2 ^ 16 → word_text m ++ r ≡ word_text n ++ s → (m ≡ n) × (r ≡ s)
word_then m n r s a b e =
    let high = byte_same (m / 256 % 256) (n / 256 % 256) (omega arith) (omega arith) (cc) (cc) in
    let low = byte_same (m % 256) (n % 256) (omega arith) (omega arith) (cc) (cc) in
    (omega (arith, a, b, high, low), cc)

pub word_tells : (m n : ℕ) → m < 2 ^ 16 → n < 2 ^ 16 → Tells (word_text m) (word_text n) (m ≡ n)
word_tells m n a b = record { told = λ r s _ _ e. word_then m n r s a b e }

-- ---- addresses and keys

four_bytes : (ip : List ℕ) → length ip ≡ 4 → ip ≡ slice_index ip 0 ∷ slice_index ip 1 ∷ slice_index ip 2 ∷ slice_index ip 3 ∷ []
four_bytes [] h = absurd (omega (arith, h))
four_bytes (a ∷ []) h = absurd (omega (arith, h))
four_bytes (a ∷ b ∷ []) h = absurd (omega (arith, h))
four_bytes (a ∷ b ∷ c ∷ []) h = absurd (omega (arith, h))
four_bytes (a ∷ b ∷ c ∷ d ∷ []) h = refl
four_bytes (a ∷ b ∷ c ∷ d ∷ e ∷ rest) h = absurd (omega (arith, h))

-- an address of four bytes
abbrev pub IsAddress : List ℕ → Type 0
IsAddress ip = (length ip ≡ 4) × AreBytes ip

part_small : (ip : List ℕ) (i : ℕ) → IsAddress ip → slice_index ip i < 2 ^ 64
part_small ip i h =
    let small = byte_at ip i h.1 in
    omega (arith, small)

-- the text of an address, and then more
address_and : (ip rest : List ℕ) → address_text ip ++ rest
    ≡ decimal (slice_index ip 0) ++ 46 ∷ (decimal (slice_index ip 1) ++ 46 ∷ (decimal (slice_index ip 2) ++ 46 ∷ (decimal (slice_index ip 3) ++ rest)))
address_and ip rest =
    append_assoc (decimal (slice_index ip 0)) _ rest
    ∙ ap (λ (t : List ℕ). decimal (slice_index ip 0) ++ 46 ∷ t) (append_assoc (decimal (slice_index ip 1)) _ rest
    ∙ ap (λ (t : List ℕ). decimal (slice_index ip 1) ++ 46 ∷ t) (append_assoc (decimal (slice_index ip 2)) _ rest))

-- an address, up to a character that is no digit
address_then : (c : ℕ) (xs ys r s : List ℕ) → ¬ IsDigit c → IsAddress xs → IsAddress ys → address_text xs ++ c ∷ r ≡ address_text ys ++ c ∷ s
    → (xs ≡ ys) × (r ≡ s)
address_then c xs ys r s not a b e =
    let dot : ¬ IsDigit 46 = λ h. omega (arith, h) in
    let whole = sym (address_and xs (c ∷ r)) ∙ e ∙ address_and ys (c ∷ s) in
    let one = number_then 46 (slice_index xs 0) (slice_index ys 0) _ _ dot (part_small xs 0 a) (part_small ys 0 b) whole in
    let two = number_then 46 (slice_index xs 1) (slice_index ys 1) _ _ dot (part_small xs 1 a) (part_small ys 1 b) one.1 in
    let three = number_then 46 (slice_index xs 2) (slice_index ys 2) _ _ dot (part_small xs 2 a) (part_small ys 2 b) two.1 in
    let four = number_then c (slice_index xs 3) (slice_index ys 3) r s not (part_small xs 3 a) (part_small ys 3 b) three.1 in
    let here = four_bytes xs a.0 in
    let there = four_bytes ys b.0 in
    (cc (here, there, one.0, two.0, three.0, four.0), four.1)

address_same : (xs ys : List ℕ) → IsAddress xs → IsAddress ys → address_text xs ≡ address_text ys → xs ≡ ys
address_same xs ys a b e =
    let space : ¬ IsDigit 32 = λ h. omega (arith, h) in
    (address_then 32 xs ys [] [] space a b (ap (λ (t : List ℕ). t ++ 32 ∷ []) e)).0

pub address_tells : (xs ys : List ℕ) → IsAddress xs → IsAddress ys → Tells (address_text xs) (address_text ys) (xs ≡ ys)
address_tells xs ys a b =
    seen_tells (address_text xs) (address_text ys) (address_word xs).1 (address_word ys).1 (address_same xs ys a b)

-- a key that stands in bytes
abbrev pub IsByteKey : Key → Type 0
IsByteKey key = IsKey key × AreBytes key.ip

pub key_same : (k l : Key) → IsByteKey k → IsByteKey l → key_text k ≡ key_text l → k ≡ l
key_same k l a b e =
    let colon : ¬ IsDigit 58 = λ h. omega (arith, h) in
    let slash : ¬ IsDigit 47 = λ h. omega (arith, h) in
    let here = a.0.port in
    let there = b.0.port in
    let ip = address_then 58 k.ip l.ip _ _ colon (a.0.ip, a.1) (b.0.ip, b.1) e in
    let port = number_then 47 k.port l.port _ _ slash (omega (arith, here)) (omega (arith, there)) ip.1 in
    let id = word_then k.id l.id [] [] a.0.id b.0.id (ap (λ (t : List ℕ). t ++ []) port.1) in
    λ i. record { ip = ip.0 i; port = port.0 i; id = id.0 i }

pub key_tells : (k l : Key) → IsByteKey k → IsByteKey l → Tells (key_text k) (key_text l) (k ≡ l)
key_tells k l a b =
    seen_tells (key_text k) (key_text l) (key_word k).1 (key_word l).1 (key_same k l a b)

-- ---- names

pub name_same : (m n : NetbiosName) → IsByteName m → IsByteName n → written m ≡ written n → m ≡ n
name_same m n a b e = one_name_of (written m) m n (written-text m a.0 a.1) (subst (IsText n) (sym e) (written-text n b.0 b.1))

pub name_tells : (m n : NetbiosName) → IsByteName m → IsByteName n → Tells (written m) (written n) (m ≡ n)
name_tells m n a b = seen_tells (written m) (written n) (name_word m a).1 (name_word n b).1 (name_same m n a b)
