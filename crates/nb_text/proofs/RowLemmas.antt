-- Rows of fields that stand in a line after its first word: they are words, each after a space, and the text tells each of them.
-- A number more in a row is met by none of these lemmas.
use Rattle.std.proofs.Common.{◌≡◌, ◌==◌, ◌&&◌, ◌-◌, ℕ, Bool, true, false, if◌then◌else◌, List, [], ◌∷◌, ◌++◌, drop, length, refl, ap₂, arith}
use Rattle.std.specs.List.{AllByRecursion, list_all}
use Rattle.std.specs.Char.{is_ascii_graphic}
use Rattle.std.specs.Fmt.{decimal}
use Rattle.std.proofs.lemmas.Bool.{and_parts}
use Rattle.nb_streams.specs.Hexadecimal.{data_text, digits_text}
use Rattle.nb_telling.specs.Telling.{Field, Text, Number, Digits, Data, Set}
use Rattle.nb_telling.specs.Texts.{joined}
use Rattle.nb_text.specs.Fields.{IsWord}
use Rattle.nb_text.proofs.FieldLemmas.{graphic_row, number_word, seen-append, some-append}
use Rattle.nb_text.proofs.MidLemmas.{Ends, mid_then, mid_word}
use Rattle.nb_text.proofs.TellLemmas.{Tells, EndsField, space, seen_tells, both_tell, after_tells, tells_then}

-- ---- rows

-- what stands before a field's value, and its value
abbrev pub parts_of : Field → List ℕ × List ℕ
parts_of (Text key text) = (key.lead, text)
parts_of (Number key n) = (key.lead, decimal n)
parts_of (Digits key bytes) = (key.lead, digits_text bytes)
parts_of (Data key bytes) = (key.lead, data_text bytes)
parts_of (Set key names) = (key.lead, joined names)
parts_of field = ([], [])

-- whether what stands before it is a character, here a space, and what is written out
abbrev pub is_led : List ℕ → Bool
is_led [] = false
is_led (c ∷ cs) = list_all is_ascii_graphic cs

abbrev pub are_led : List Field → Bool
are_led [] = true
are_led (field ∷ row) = is_led (parts_of field).0 && are_led row

-- that values are words; numbers always are
abbrev pub AreShown : List Field → Type 0
AreShown [] = Unit {0}
AreShown (Number key n ∷ row) = AreShown row
AreShown (field ∷ row) = IsWord (parts_of field).1 × AreShown row

-- the words of a row
abbrev pub words_of : List Field → List (List ℕ)
words_of [] = []
words_of (field ∷ row) = drop 1 ((parts_of field).0 ++ (parts_of field).1) ∷ words_of row

-- spaced words rest: words, each after a space, and the rest
abbrev pub spaced : List (List ℕ) → List ℕ → List ℕ
spaced [] rest = rest
spaced (word ∷ words) rest = 32 ∷ (word ++ spaced words rest)

led_word : (lead value : List ℕ) → is_led lead ≡ true → IsWord value → IsWord (drop 1 (lead ++ value))
led_word [] value h word = absurd (cc)
led_word (c ∷ cs) value h word = (some-append cs value word.0, seen-append cs value (graphic_row cs h) word.1)

row_words : (row : List Field) → are_led row ≡ true → AreShown row → AllByRecursion IsWord (words_of row)
row_words [] h shown = tt
row_words (Number key n ∷ row) h shown =
    let led = and_parts (is_led key.lead) (are_led row) h in
    (led_word key.lead (decimal n) led.0 (number_word n), row_words row led.1 shown)
row_words (field ∷ row) h shown =
    let led = and_parts (is_led (parts_of field).0) (are_led row) h in
    (led_word (parts_of field).0 (parts_of field).1 led.0 shown.0, row_words row led.1 shown.1)

-- ---- what may follow a word

words_end : (words : List (List ℕ)) {rest : List ℕ} → AllByRecursion IsWord words → Ends rest → Ends (spaced words rest)
words_end [] are ends = ends
words_end (word ∷ words) are ends = mid_then (mid_word word are.0) (words_end words are.1 ends)

pub row_ends : (row : List Field) {rest : List ℕ} → are_led row ≡ true → AreShown row → Ends rest → Ends (spaced (words_of row) rest)
row_ends row led shown ends = words_end (words_of row) (row_words row led shown) ends

-- ---- what a text tells

spaced_ends : (words : List (List ℕ)) (rest : List ℕ) → EndsField rest → EndsField (spaced words rest)
spaced_ends [] rest ends = ends
spaced_ends (word ∷ words) rest ends = space

words_tell : {F : Type 0} (xs ys : List (List ℕ)) {r s : List ℕ} → length xs ≡ length ys → AllByRecursion IsWord xs → AllByRecursion IsWord ys
    → Tells r s F → EndsField r → EndsField s → Tells (spaced xs r) (spaced ys s) ((xs ≡ ys) × F)
words_tell [] [] {r} {s} size a b rest p q = tells_then rest (λ h. (refl, h))
words_tell [] (y ∷ ys) {r} {s} size a b rest p q = absurd (omega (arith, size))
words_tell (x ∷ xs) [] {r} {s} size a b rest p q = absurd (omega (arith, size))
words_tell (x ∷ xs) (y ∷ ys) {r} {s} size a b rest p q =
    let word = seen_tells x y a.0.1 b.0.1 (λ e. e) in
    let words = words_tell xs ys (omega (arith, size)) a.1 b.1 rest p q in
    tells_then (after_tells (32 ∷ []) (both_tell word (λ _. words) (spaced_ends xs r p) (spaced_ends ys s q)))
    (λ h. (ap₂ (λ (w : List ℕ) (ws : List (List ℕ)). w ∷ ws) h.0 h.1.0, h.1.1))

-- two rows of as many fields, and then what tells
pub rows_tell : {F : Type 0} (xs ys : List Field) {r s : List ℕ} → length (words_of xs) ≡ length (words_of ys) → are_led xs ≡ true → are_led ys ≡ true
    → AreShown xs → AreShown ys → Tells r s F → EndsField r → EndsField s
    → Tells (spaced (words_of xs) r) (spaced (words_of ys) s) ((words_of xs ≡ words_of ys) × F)
rows_tell xs ys size g h a b rest p q =
    words_tell (words_of xs) (words_of ys) size (row_words xs g a) (row_words ys h b) rest p q

-- ---- a value by what stands before it

abbrev pub are_same : List ℕ → List ℕ → Bool
are_same [] [] = true
are_same (c ∷ cs) (d ∷ ds) = (c == d) && are_same cs ds
are_same cs ds = false

-- value_at lead row words: of the words of such a row the value of the field that begins so
abbrev pub value_at : List ℕ → List Field → List (List ℕ) → List ℕ
value_at lead (field ∷ row) (word ∷ words) =
    if are_same lead (parts_of field).0 then drop (length lead - 1) word else value_at lead row words
value_at lead row words = []
