-- First-level encoding: each byte of a name is two letters.
use Rattle.std.proofs.Common.{◌≡◌, ◌<◌, ◌≤◌, ◌+◌, ◌*◌, ◌/◌, ◌%◌, ◌&&◌, nat_lt, ℕ, Bool, true, List, [], ◌∷◌, ◌++◌, length, get_or, set, take, drop, refl, ap, sym, ◌∙◌, arith, inl, inr, append_assoc, length-set, zero, suc}
use Rattle.std.proofs.lemmas.List.{take_more, take_more_set, take_all, drop_more, length-drop}
use Rattle.std.proofs.lemmas.Bool.{cases_lt, and_parts, ltb-true}
use Rattle.nb_names.specs.FirstLevel.{letter, letters, IsLetter}

pub letters-append : (xs ys : List ℕ) → letters (xs ++ ys) ≡ letters xs ++ letters ys
letters-append [] ys = refl
letters-append (x ∷ xs) ys = ap (λ (r : List ℕ). letter (x / 16) ∷ letter (x % 16) ∷ r) (letters-append xs ys)

pub length-letters : (xs : List ℕ) → length (letters xs) ≡ 2 * length xs
length-letters [] = refl
length-letters (x ∷ xs) = omega (arith, length-letters xs)

-- one more byte is two more letters
pub letters-more : (bytes : List ℕ) (i : ℕ) → i < length bytes → letters (take (i + 1) bytes) ≡ letters (take i bytes) ++ (letter (get_or bytes i 0 / 16) ∷ letter (get_or bytes i 0 % 16) ∷ [])
letters-more bytes i h = ap letters (take_more bytes i 0 h) ∙ letters-append (take i bytes) (get_or bytes i 0 ∷ [])

-- two more elements
pub take_two_more : (xs : List ℕ) (i : ℕ) → 2 * i + 1 < length xs → take (2 * (i + 1)) xs ≡ take (2 * i) xs ++ (get_or xs (2 * i) 0 ∷ get_or xs (2 * i + 1) 0 ∷ [])
take_two_more xs i h =
    let two : 2 * (i + 1) ≡ (2 * i + 1) + 1 = omega arith in
    ap (λ n. take n xs) two ∙ take_more xs (2 * i + 1) 0 h
    ∙ ap (λ (r : List ℕ). r ++ get_or xs (2 * i + 1) 0 ∷ []) (take_more xs (2 * i) 0 (omega arith))
    ∙ append_assoc (take (2 * i) xs) (get_or xs (2 * i) 0 ∷ []) (get_or xs (2 * i + 1) 0 ∷ [])

-- two stores after what is done
pub take_two_set : (xs : List ℕ) (i a b : ℕ) → 2 * i + 1 < length xs → take (2 * (i + 1)) (set (set xs (2 * i) a) (2 * i + 1) b) ≡ take (2 * i) xs ++ (a ∷ b ∷ [])
take_two_set xs i a b h =
    let two : 2 * (i + 1) ≡ (2 * i + 1) + 1 = omega arith in
    ap (λ n. take n (set (set xs (2 * i) a) (2 * i + 1) b)) two
    ∙ take_more_set (set xs (2 * i) a) (2 * i + 1) b (omega (arith, length-set xs (2 * i) a))
    ∙ ap (λ (r : List ℕ). r ++ b ∷ []) (take_more_set xs (2 * i) a (omega arith))
    ∙ append_assoc (take (2 * i) xs) (a ∷ []) (b ∷ [])

-- a turn of writing letters
pub letters_turn : (ls bytes : List ℕ) (i : ℕ) → 2 * i + 1 < length ls → i < length bytes → take (2 * i) ls ≡ letters (take i bytes) →
    take (2 * (i + 1)) (set (set ls (2 * i) (letter (get_or bytes i 0 / 16))) (2 * i + 1) (letter (get_or bytes i 0 % 16))) ≡ letters (take (i + 1) bytes)
letters_turn ls bytes i room more done =
    take_two_set ls i _ _ room
    ∙ ap (λ (r : List ℕ). r ++ (letter (get_or bytes i 0 / 16) ∷ letter (get_or bytes i 0 % 16) ∷ [])) done
    ∙ sym (letters-more bytes i more)

halves : (high low : ℕ) → high < 16 → low < 16 → ((high * 16 + low) / 16 ≡ high) × ((high * 16 + low) % 16 ≡ low)
halves high low h l = (omega arith, omega arith)

-- a turn of reading letters
pub bytes_turn : (ls bytes : List ℕ) (i high low : ℕ) → 2 * i + 1 < length ls → i < length bytes → high < 16 → low < 16 →
    get_or ls (2 * i) 0 ≡ letter high → get_or ls (2 * i + 1) 0 ≡ letter low → take (2 * i) ls ≡ letters (take i bytes) →
    take (2 * (i + 1)) ls ≡ letters (take (i + 1) (set bytes i (high * 16 + low)))
bytes_turn ls bytes i high low room more h l first second done =
    let byte = halves high low h l in
    let written : letters (take (i + 1) (set bytes i (high * 16 + low))) ≡ letters (take i bytes) ++ (letter high ∷ letter low ∷ []) =
    ap letters (take_more_set bytes i (high * 16 + low) more) ∙ letters-append (take i bytes) ((high * 16 + low) ∷ [])
    ∙ ap (λ (r : List ℕ). letters (take i bytes) ++ r) (cc (byte.0, byte.1)) in
    take_two_more ls i room ∙ cc (first, second, done, written)

-- once all are done
pub all_letters : (ls bytes : List ℕ) (i : ℕ) → length ls ≤ 2 * i → length bytes ≤ i → take (2 * i) ls ≡ letters (take i bytes) → ls ≡ letters bytes
all_letters ls bytes i l b done = sym (take_all (2 * i) ls l) ∙ done ∙ ap letters (take_all i bytes b)

-- two more letters
pub letters_two_more : (ls : List ℕ) (i high low : ℕ) → high < 16 → low < 16 → get_or ls (2 * i) 0 ≡ letter high → get_or ls (2 * i + 1) 0 ≡ letter low →
    ((k : ℕ) → k < 2 * i → IsLetter (get_or ls k 0)) → (k : ℕ) → k < 2 * (i + 1) → IsLetter (get_or ls k 0)
letters_two_more ls i high low h l first second done k below =
    elim (cases_lt k (2 * i)) [
      | inl less ↦ done k less
      | inr more ↦ elim (cases_lt k (2 * i + 1)) [
        | inl one ↦ let at : k ≡ 2 * i = omega arith in (omega (arith, ap (λ (n : ℕ). get_or ls n 0) at, first), omega (arith, ap (λ (n : ℕ). get_or ls n 0) at, first))
        | inr two ↦ let at : k ≡ 2 * i + 1 = omega arith in (omega (arith, ap (λ (n : ℕ). get_or ls n 0) at, second), omega (arith, ap (λ (n : ℕ). get_or ls n 0) at, second))
      ]
    ]

-- ---- letters, a pair at a time

-- LettersRead ls bytes rest good i: the letters of so many pairs are read into the bytes, or some byte of theirs is no
-- letter
pub record LettersRead (ls bytes rest : List ℕ) (good : Bool) (i : ℕ) : Type 0 where
  pub size : length ls ≡ 2 * length bytes
  pub behind : rest ≡ drop (2 * i) ls
  pub left : length rest + 2 * i ≡ length ls
  pub read : good ≡ true → take (2 * i) ls ≡ letters (take i bytes)

-- no pair is read yet
pub no_pair : (ls bytes : List ℕ) → length ls ≡ 2 * length bytes → LettersRead ls bytes ls true 0
no_pair ls bytes size = record {
  size = size;
  behind = refl;
  left = omega arith;
  read = λ _. refl;
}

-- what is left, at a whole pair
drop_pair : (ls : List ℕ) (i : ℕ) → 2 * i + 1 < length ls
    → drop (2 * i) ls ≡ get_or ls (2 * i) 0 ∷ get_or ls (2 * i + 1) 0 ∷ drop (2 * (i + 1)) ls
drop_pair ls i fits =
    let a = drop_more ls (2 * i) 0 (omega arith) in
    let b = drop_more ls (2 * i + 1) 0 (omega arith) in
    let two : 2 * i + 1 + 1 ≡ 2 * (i + 1) = omega arith in
    rw (a, b, two) refl

-- a byte that is 'A' plus a half
letter_of : (byte half : ℕ) → byte < 256 → half ≡ (byte + 191) % 256 → half < 16 → byte ≡ letter half
letter_of byte half small is less = omega (arith, small, is, less)

-- one pair more is read
pub pair_more : (ls bytes rest pair behind : List ℕ) (good : Bool) (i high low : ℕ) → LettersRead ls bytes rest good i
    → i < length bytes → ((k : ℕ) → get_or ls k 0 < 256) → pair ≡ take 2 rest → behind ≡ drop 2 rest
    → high ≡ (get_or pair 0 0 + 191) % 256 → low ≡ (get_or pair 1 0 + 191) % 256
    → LettersRead ls (set bytes i ((high * 16 % 256 + low) % 256)) behind (good && nat_lt high 16 && nat_lt low 16) (i + 1)
pair_more ls bytes rest pair behind good i high low so_far fits small is_pair is_behind ah al =
    let size = so_far.size in
    let at = so_far.behind ∙ drop_pair ls i (omega (arith, size, fits)) in
    let whole : pair ≡ get_or ls (2 * i) 0 ∷ get_or ls (2 * i + 1) 0 ∷ [] = is_pair ∙ ap (take 2) at in
    let first : get_or pair 0 0 ≡ get_or ls (2 * i) 0 = ap (λ (xs : List ℕ). get_or xs 0 0) whole in
    let second : get_or pair 1 0 ≡ get_or ls (2 * i + 1) 0 = ap (λ (xs : List ℕ). get_or xs 1 0) whole in
    let after : behind ≡ drop (2 * (i + 1)) ls = is_behind ∙ ap (drop 2) at in
    record {
      size = rw (length-set bytes i ((high * 16 % 256 + low) % 256)) size;
      behind = after;
      left = rw (after, length-drop (2 * (i + 1)) ls) (omega (arith, size, fits));
      read = λ e.
          let parts = and_parts (good && nat_lt high 16) (nat_lt low 16) e in
          let front = and_parts good (nat_lt high 16) parts.0 in
          let h : high < 16 = ltb-true high 16 front.1 in
          let l : low < 16 = ltb-true low 16 parts.1 in
          let byte : (high * 16 % 256 + low) % 256 ≡ high * 16 + low = omega (arith, h, l) in
          let one = letter_of (get_or ls (2 * i) 0) high (small (2 * i)) (rw first at ah) h in
          let two = letter_of (get_or ls (2 * i + 1) 0) low (small (2 * i + 1)) (rw second at al) l in
          rw byte (bytes_turn ls bytes i high low (omega (arith, size, fits)) fits h l one two (so_far.read front.0));
    }

pub letters_high : (bytes : List ℕ) (place : ℕ) → place < length bytes → get_or (letters bytes) (2 * place) 0 ≡ 65 + get_or bytes place 0 / 16
letters_high [] place within = absurd (omega arith)
letters_high (b ∷ bs) zero within = refl
letters_high (b ∷ bs) (suc place) within = let two : 2 * suc place ≡ suc (suc (2 * place)) = omega arith in rw two (letters_high bs place (omega arith))

pub letters_low : (bytes : List ℕ) (place : ℕ) → place < length bytes → get_or (letters bytes) (2 * place + 1) 0 ≡ 65 + get_or bytes place 0 % 16
letters_low [] place within = absurd (omega arith)
letters_low (b ∷ bs) zero within = refl
letters_low (b ∷ bs) (suc place) within = let two : 2 * suc place + 1 ≡ suc (suc (2 * place + 1)) = omega arith in rw two (letters_low bs place (omega arith))
