-- What the texts of arguments stand for, and words one by one.
use Rattle.nb_building.proofs.Common.{BuildFault, MatchResult, NamesNone, Word, ◌≡◌, ℕ, zero, suc, ◌+◌, ◌≤◌, ◌<◌, ◌^◌, true, List, [], ◌∷◌, length, get_or, map, refl, sym, ap, ◌∙◌, arith, Result, Ok, Err, list_all, and_parts, NumberText, decimal, AllDigits, ParsesUnsigned, digits_value, decimal_injective, decimal-digits_value, decimal_digit, digits_decimal, first_decimal, parse-decimal, IsNumeralModel, digit_from_value, parse_digits, numerals_by_value, tells_digits}
use Rattle.std.specs.Result.{OkIff, result_or}
use Rattle.std.specs.Char.{is_ascii_digit, digit_value}
use Rattle.std.proofs.lemmas.Bool.Decides.{nat_tests}

-- ---- decimal numbers

digit_at : (c : ℕ) → is_ascii_digit c ≡ true → digit_value c < 10
digit_at c h = grind (arith, nat_tests)

-- a text of bytes that pass the test is digits
AllDigits-from_test : (text : List ℕ) → list_all is_ascii_digit text ≡ true → AllDigits 10 text
AllDigits-from_test [] h = tt
AllDigits-from_test (c ∷ cs) h =
    let parts = and_parts (is_ascii_digit c) (list_all is_ascii_digit cs) h in
    (digit_at c parts.0, AllDigits-from_test cs parts.1)

by_value : IsNumeralModel (AllDigits 10) (digits_value 10)
by_value = numerals_by_value (AllDigits 10) tells_digits

-- what is parsed of digits without leading zeros is the number that they are
pub number_from_parse : {E : Type 0} (text : List ℕ) (r : Result ℕ E) (n : ℕ) → r ≡ Ok n → list_all is_ascii_digit text ≡ true
    → (get_or text 0 0 ≡ 48 → length text < 2) → ParsesUnsigned 32 10 text r → NumberText 4294967295 n text
number_from_parse {E} text r n is h shortest parsed =
    let all = AllDigits-from_test text h in
    let p = parse_digits by_value {E = E} 32 text (Ok n) (rw is at parsed) all in
    let one : get_or text 0 0 ≡ 48 → length text ≡ 1 = λ zero. omega (arith, shortest zero, p.0.0) in
    (rw p.1 (omega (arith, p.0.1)), sym (decimal-digits_value by_value text all p.0.0 one (omega (arith, p.0.1))) ∙ ap decimal (sym p.1))

-- digits pass the test
digit_passes : (c : ℕ) → digit_value c < 10 → is_ascii_digit c ≡ true
digit_passes c h = let within = digit_from_value c h in grind (arith, nat_tests, within)

passes-from_AllDigits : (text : List ℕ) → AllDigits 10 text → list_all is_ascii_digit text ≡ true
passes-from_AllDigits [] h = refl
passes-from_AllDigits (c ∷ cs) h = rw (digit_passes c h.0) (passes-from_AllDigits cs h.1)

pub AllDigits-decimal : (n : ℕ) → n < 2 ^ 64 → AllDigits 10 (decimal n)
AllDigits-decimal n small = digits_decimal by_value n small

-- a number's text is of digits, and has no leading zero
pub decimal_passes : (n : ℕ) (text : List ℕ) → NumberText 4294967295 n text → list_all is_ascii_digit text ≡ true
decimal_passes n text h = rw (h.1) (passes-from_AllDigits (decimal n) (AllDigits-decimal n (omega (arith, h.0))))

decimal_leads : (n : ℕ) → n < 2 ^ 64 → get_or (decimal n) 0 0 ≡ 48 → length (decimal n) < 2
decimal_leads zero small leads = rw (decimal_digit 0 (omega arith)) (omega arith)
decimal_leads (suc n) small leads = absurd (omega (arith, leads, first_decimal (suc n) (omega arith) small))

pub number_leads : (n : ℕ) (text : List ℕ) → NumberText 4294967295 n text → get_or text 0 0 ≡ 48 → length text < 2
number_leads n text h = rw (h.1) (decimal_leads n (omega (arith, h.0)))

-- what is not parsed is no number
pub no_number_from_parse : {E : Type 0} (text : List ℕ) (r : Result ℕ E) (e : E) → r ≡ Err e → ParsesUnsigned 32 10 text r
    → (n : ℕ) → ¬ NumberText 4294967295 n text
no_number_from_parse text r e is parsed n h =
    let read = parse-decimal 32 n text r (omega (arith, h.0)) (omega (arith, h.0)) h.1 parsed in absurd (cc (is, read))

-- a number that is too great is no less
none_so_small : (text : List ℕ) (most n : ℕ) → most ≤ 4294967295 → NumberText 4294967295 n text → ¬ (n < most + 1)
    → (m : ℕ) → ¬ NumberText most m text
none_so_small text most n low is far m h =
    let same = decimal_injective m n (omega (arith, low, h.0)) (omega (arith, is.0)) (sym h.1 ∙ is.1) in
    far (omega (arith, same, h.0))

-- a refusal that is told as another
pub told_as : {T E : Type 0} (P : T → Type 0) (Q : BuildFault → Type 0) (told : BuildFault) (r : Result T E) (s : Result T BuildFault)
    → s ≡ result_or r (Err told) → ((x : T) → r ≡ Ok x → P x) → ((e : E) → r ≡ Err e → Q told) → MatchResult s P Q
told_as P Q told (Ok x) s is ok err = rw is (ok x refl)
told_as P Q told (Err e) s is ok err = rw is (err e refl)

-- a number of fewer bits, if it is one
pub narrowed : {E : Type 0} (most n place : ℕ) (text : List ℕ) (r : Result ℕ E) (s : Result ℕ BuildFault) → most ≤ 4294967295
    → NumberText 4294967295 n text → OkIff r (n < most + 1) n → s ≡ result_or r (Err (Word place))
    → MatchResult s (λ number. NumberText most number text) (NamesNone place (λ number. NumberText most number text))
narrowed most n place text (Ok m) s low is fits or = rw (or, fits.1) (omega (arith, fits.0), is.1)
narrowed most n place text (Err e) s low is far or = rw or (refl, none_so_small text most n low is far)

-- ---- words, one by one

pub no_words : {A : Type 0} (f : A → List ℕ) (ws : List A) → length ws < 1 → map f ws ≡ []
no_words f [] few = refl
no_words f (a ∷ ws) few = absurd (omega (arith, few))

pub one_word : {A : Type 0} (f : A → List ℕ) (d : A) (ws : List A) → 1 ≤ length ws → length ws < 2 → map f ws ≡ f (get_or ws 0 d) ∷ []
one_word f d [] many few = absurd (omega (arith, many))
one_word f d (a ∷ ws) many few = ap (λ l. f a ∷ l) (no_words f ws (omega (arith, few)))

pub two_words : {A : Type 0} (f : A → List ℕ) (d : A) (ws : List A) → 2 ≤ length ws → length ws < 3
    → map f ws ≡ f (get_or ws 0 d) ∷ f (get_or ws 1 d) ∷ []
two_words f d [] many few = absurd (omega (arith, many))
two_words f d (a ∷ ws) many few = ap (λ l. f a ∷ l) (one_word f d ws (omega (arith, many)) (omega (arith, few)))

three_words : {A : Type 0} (f : A → List ℕ) (d : A) (ws : List A) → 3 ≤ length ws → length ws < 4
    → map f ws ≡ f (get_or ws 0 d) ∷ f (get_or ws 1 d) ∷ f (get_or ws 2 d) ∷ []
three_words f d [] many few = absurd (omega (arith, many))
three_words f d (a ∷ ws) many few = ap (λ l. f a ∷ l) (two_words f d ws (omega (arith, many)) (omega (arith, few)))

pub four_words : {A : Type 0} (f : A → List ℕ) (d : A) (ws : List A) → 4 ≤ length ws → length ws < 5
    → map f ws ≡ f (get_or ws 0 d) ∷ f (get_or ws 1 d) ∷ f (get_or ws 2 d) ∷ f (get_or ws 3 d) ∷ []
four_words f d [] many few = absurd (omega (arith, many))
four_words f d (a ∷ ws) many few = ap (λ l. f a ∷ l) (three_words f d ws (omega (arith, many)) (omega (arith, few)))

pub five_words : {A : Type 0} (f : A → List ℕ) (d : A) (ws : List A) → 5 ≤ length ws → length ws < 6
    → map f ws ≡ f (get_or ws 0 d) ∷ f (get_or ws 1 d) ∷ f (get_or ws 2 d) ∷ f (get_or ws 3 d) ∷ f (get_or ws 4 d) ∷ []
five_words f d [] many few = absurd (omega (arith, many))
five_words f d (a ∷ ws) many few = ap (λ l. f a ∷ l) (four_words f d ws (omega (arith, many)) (omega (arith, few)))

pub six_words : {A : Type 0} (f : A → List ℕ) (d : A) (ws : List A) → 6 ≤ length ws → length ws < 7
    → map f ws ≡ f (get_or ws 0 d) ∷ f (get_or ws 1 d) ∷ f (get_or ws 2 d) ∷ f (get_or ws 3 d) ∷ f (get_or ws 4 d) ∷ f (get_or ws 5 d) ∷ []
six_words f d [] many few = absurd (omega (arith, many))
six_words f d (a ∷ ws) many few = ap (λ l. f a ∷ l) (five_words f d ws (omega (arith, many)) (omega (arith, few)))
