-- What is added to a text: digits, data, addresses, and what has a text of its own.
use Rattle.std.proofs.Common.{◌≡◌, ℕ, suc, ◌/◌, ◌%◌, ◌<◌, List, [], ◌∷◌, ◌++◌, take, drop, get_or, sym, arith, ◌-◌, length, refl, ◌∙◌, ap, ◌≢◌, inl, inr, Result, Ok, Err, ◌≤◌, lit<, append-nil, length-drop, Option, Some, None, IfSome}
use Rattle.std.specs.Char.{digit_char}
use Rattle.std.specs.Str.{IsAscii}
use Rattle.std.proofs.lemmas.Bool.Decides.{nat_tests}
use Rattle.std.proofs.lemmas.Grind.{flat_map-append}
use Rattle.std.proofs.lemmas.List.{append_assoc, take-append-drop, take_all}
use Rattle.std.proofs.lemmas.Str.Ascii.{IsAscii-nil, IsAscii-cons}
use Rattle.nb_streams.specs.Hexadecimal.{digits_of}
use Rattle.nb_streams.specs.Hexadecimal.{digits_text, DataText, digits, ReadsDigits, ReadsData}
use Rattle.std.specs.Prelude.{codes}
use Rattle.nb_streams.specs.HexadecimalFacts.{DataText-cases}
use Rattle.nb_streams.specs.declared.hexadecimal.DigitsFault.{DigitsFault}
use Rattle.nb_streams.specs.declared.hexadecimal.DigitsFault.TheVariants.{BadDigits, NoMemory}
use Rattle.std.specs.Fmt.{decimal, WritesText}
use Rattle.std.proofs.lemmas.Fmt.{IsAscii-decimal, length-decimal-le, contents_after_writes}
use Rattle.std.proofs.lemmas.Str.{IsAscii-append}
use Rattle.arrayvec.specs.ArrayString.{ArrayString}

-- a part's digits are added before those of the rest
pub part_more : (text after whole part behind rest : List ℕ) (n : ℕ) → text ++ digits_text rest ≡ whole
    → part ≡ take n rest → behind ≡ drop n rest → after ≡ text ++ digits_text part
    → after ++ digits_text behind ≡ whole
part_more text after whole part behind rest n inv front back added =
    let split : rest ≡ part ++ behind = rw (front, back) (sym (take-append-drop n rest)) in
    rw (added, append_assoc text (digits_text part) (digits_text behind), sym (flat_map-append digits_of part behind), sym split) inv

digit_small : (half : ℕ) → half < 16 → digit_char half < 128
digit_small half h = grind (arith, nat_tests)

-- digits are ASCII
pub digits_are_ascii : (bytes : List ℕ) → ((i : ℕ) → get_or bytes i 0 < 256) → IsAscii (digits_text bytes)
digits_are_ascii [] small = IsAscii-nil
digits_are_ascii (b ∷ bytes) small =
    let byte : b < 256 = small 0 in
    IsAscii-cons (digit_char (b / 16)) (digit_char (b % 16) ∷ digits_text bytes) (digit_small (b / 16) (omega (arith, byte)))
    (IsAscii-cons (digit_char (b % 16)) (digits_text bytes) (digit_small (b % 16) (omega arith)) (digits_are_ascii bytes (λ i. small (suc i))))

-- no text is no data
pub no_text : (text bytes : List ℕ) → length text ≡ 0 → ¬ DataText bytes text
no_text text bytes none d =
    elim (DataText-cases bytes text d) [
      | inl e ↦ let five : length text ≡ 5 = ap length e.1 in absurd (omega (arith, none, five))
      | inr e ↦ let some = e.0 in absurd (omega (arith, none, some))
    ]

-- what is answered of digits is answered of data
pub data_read : (text : List ℕ) (r : Result (List ℕ) DigitsFault) → 0 < length text → text ≢ codes "empty" → ReadsDigits text r
    → ReadsData text r
data_read text (Ok bytes) some other h = digits bytes text some h
data_read text (Err BadDigits) some other h = λ bytes d.
    elim (DataText-cases bytes text d) [
      | inl e ↦ other e.1
      | inr e ↦ h bytes e.1
    ]
data_read text (Err NoMemory) some other h = (h.0, digits h.0 text some h.1, h.2)

-- a byte has at most three digits
pub number_is_short : (n : ℕ) → n < 256 → length (decimal n) ≤ 3
number_is_short n h = length-decimal-le 3 n (omega arith) (omega (arith, h)) (omega (arith, h))

number_is_ascii : (n : ℕ) → n < 256 → IsAscii (decimal n)
number_is_ascii n h = IsAscii-decimal n (omega (arith, h))

dotted_is_ascii : (n : ℕ) (bytes : List ℕ) → n < 256 → IsAscii bytes → IsAscii (decimal n ++ (codes "." ++ bytes))
dotted_is_ascii n bytes h rest = IsAscii-append (decimal n) (codes "." ++ bytes) (number_is_ascii n h) (IsAscii-cons 46 bytes (lit< tt) rest)

-- four numbers with dots between them are ASCII
pub address_is_ascii : (a b c d : ℕ) → a < 256 → b < 256 → c < 256 → d < 256
    → IsAscii (decimal a ++ (codes "." ++ (decimal b ++ (codes "." ++ (decimal c ++ (codes "." ++ decimal d))))))
address_is_ascii a b c d ha hb hc hd =
    dotted_is_ascii a _ ha (dotted_is_ascii b _ hb (dotted_is_ascii c _ hc (number_is_ascii d hd)))

-- what is put in front of one another is the address
pub address_is_put : (a b c d ra rb rc rd : ℕ) (tail rooma roomb roomc roomd : List ℕ) → tail ≡ [] → length rooma ≡ 15
    → drop rd roomd ≡ codes "." ++ (decimal d ++ tail)
    → drop rc roomc ≡ codes "." ++ (decimal c ++ drop rd roomd)
    → drop rb roomb ≡ codes "." ++ (decimal b ++ drop rc roomc)
    → drop ra rooma ≡ decimal a ++ drop rb roomb
    → take (15 - ra) (drop ra rooma) ≡ decimal a ++ (codes "." ++ (decimal b ++ (codes "." ++ (decimal c ++ (codes "." ++ decimal d)))))
address_is_put a b c d ra rb rc rd tail rooma roomb roomc roomd none long pd pc pb pa =
    take_all (15 - ra) (drop ra rooma) (omega (arith, length-drop ra rooma, long))
    ∙ rw (pa, pb, pc, pd, none, append-nil (decimal d)) refl

-- the room has the value's text after what it held
pub shown_behind : (output : Option (List ℕ)) (before room : ArrayString)
    → WritesText (λ s bytes t. t.bytes ≡ s.bytes ++ bytes) before output room
    → IfSome output (λ shown. room.bytes ≡ before.bytes ++ shown)
shown_behind None before room writes = tt
shown_behind (Some shown) before room writes =
    contents_after_writes (λ s bytes t. t.bytes ≡ s.bytes ++ bytes) (λ s. s.bytes) (λ s bytes t e. e) before shown room writes

-- so that is added, where the room was empty
pub shown_is : (output : Option (List ℕ)) (empty room : ArrayString) (old new : List ℕ)
    → IfSome output (λ shown. room.bytes ≡ empty.bytes ++ shown) → empty.bytes ≡ []
    → new ≡ old ++ room.bytes → IfSome output (λ shown. new ≡ old ++ shown)
shown_is None empty room old new shows none added = tt
shown_is (Some shown) empty room old new shows none added =
    added ∙ ap (λ (t : List ℕ). old ++ t) (shows ∙ ap (λ (t : List ℕ). t ++ shown) none)
