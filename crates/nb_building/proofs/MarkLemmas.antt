-- Texts that a mark divides: the parts of an address, and of a key.
use Rattle.nb_building.proofs.Common.{◌≡◌, ◌≢◌, ℕ, zero, suc, ◌<◌, ◌^◌, Bool, eqb, List, [], ◌∷◌, ◌++◌, length, get_or, Bor, Option, Some, None, Result, Ok, Err, refl, sym, ap, ap₂, ◌∙◌, subst, arith, length-append, AllByRecursion, before_first, after_first, position_or_len, IsInRange, eqb-true, eq-eqb, false≢true, get_or-take, length-take, IsErrAnd, MatchResult, AddressText, NumberText, NamesNone, SplitsAt, decimal, AllDigits, digit_from_value, BuildFault, Word}
use Rattle.std.specs.Prelude.{ok_or}
use Rattle.std.specs.Str.Pattern.{FindsChar, SplitsAtFirstByte}
use Rattle.std.proofs.lemmas.List.Sums.{fails_before_first, passes_at_first, split_at_first}
use Rattle.std.proofs.Math.Seq.{get_or-append_seam}
use Rattle.nb_building.proofs.ArgumentLemmas.{AllDigits-decimal}

-- a refusal that is passed on
pub none_passed_on : {T A : Type 0} {place : ℕ} (Named : A → Type 0) (Q : T → Type 0) (fault : BuildFault) (r : Result T BuildFault)
    → IsErrAnd r (λ made. made ≡ fault) → fault ≡ Word place → ((value : A) → ¬ Named value) → MatchResult r Q (NamesNone place Named)
none_passed_on Named Q fault (Ok x) h is none = absurd h
none_passed_on Named Q fault (Err made) h is none = (h ∙ is, none)

-- no byte of the text is the mark
abbrev pub Lacks : ℕ → List ℕ → Type 0
Lacks mark text = AllByRecursion (λ byte. byte ≢ mark) text

-- ---- the first mark

lacks_by_index : (mark : ℕ) (text : List ℕ) → ((k : ℕ) → k < length text → get_or text k 0 ≢ mark) → Lacks mark text
lacks_by_index mark [] h = tt
lacks_by_index mark (c ∷ cs) h = (h 0 (omega arith), lacks_by_index mark cs (λ k lt. h (suc k) (omega (arith, lt))))

-- what is split at the first mark
splits_at_first : (mark : ℕ) (text : List ℕ) → position_or_len (λ b. eqb b mark) text < length text
    → SplitsAt mark text (before_first (λ b. eqb b mark) text) (after_first (λ b. eqb b mark) text)
splits_at_first mark text lt =
    let test : ℕ → Bool = λ b. eqb b mark in
    let at : get_or text (position_or_len test text) 0 ≡ mark = eqb-true _ mark (passes_at_first test text 0 lt) in (
      subst (λ (n : ℕ). text ≡ before_first test text ++ n ∷ after_first test text) at (split_at_first test text 0 lt),
      lacks_by_index mark (before_first test text) (λ k k_lt is.
          let short : k < position_or_len test text =
          omega (arith, k_lt, length-take (position_or_len test text) text) in
          let fails = fails_before_first test text k 0 short in
          let same : get_or (before_first test text) k 0 ≡ get_or text k 0 = get_or-take (position_or_len test text) text k 0 short in
          absurd (false≢true (sym fails ∙ eq-eqb _ mark (sym same ∙ is)))),
    )

-- a text without a mark is divided by none
pub no_split : (mark : ℕ) (text : List ℕ) → position_or_len (λ b. eqb b mark) text ≡ length text → (front behind : List ℕ)
    → text ≢ front ++ mark ∷ behind
no_split mark text none front behind is =
    let test : ℕ → Bool = λ b. eqb b mark in
    let lt : length front < position_or_len test text = omega (arith, none, ap length is, length-append front (mark ∷ behind)) in
    let at : get_or text (length front) 0 ≡ mark = rw is (get_or-append_seam front mark behind 0) in
    absurd (false≢true (sym (fails_before_first test text (length front) 0 lt) ∙ eq-eqb _ mark at))

split_from_call : (mark : ℕ) (text : List ℕ) (r : Option (Bor (List ℕ) × Bor (List ℕ))) (x : Bor (List ℕ) × Bor (List ℕ)) → mark < 128
    → r ≡ Some x → SplitsAtFirstByte (FindsChar mark) (Some mark) text r → SplitsAt mark text x.0.now x.1.now
split_from_call mark text r x low is split =
    let parts = (rw is at split) low (λ w o h. h) in
    rw (parts.0, parts.1) (splits_at_first mark text parts.2)

no_split_from_call : (mark : ℕ) (text : List ℕ) (r : Option (Bor (List ℕ) × Bor (List ℕ))) → mark < 128
    → r ≡ None → SplitsAtFirstByte (FindsChar mark) (Some mark) text r → (front behind : List ℕ) → text ≢ front ++ mark ∷ behind
no_split_from_call mark text r low is split = no_split mark text ((rw is at split) low (λ w o h. h))

pub parts_from_call : (mark place : ℕ) (text : List ℕ) (r : Option (Bor (List ℕ) × Bor (List ℕ))) (s : Result (Bor (List ℕ) × Bor (List ℕ)) BuildFault)
    → mark < 128 → s ≡ ok_or r (Word place) → SplitsAtFirstByte (FindsChar mark) (Some mark) text r
    → MatchResult s (λ parts. SplitsAt mark text parts.0.now parts.1.now) (NamesNone place (λ (parts : List ℕ × List ℕ). text ≡ parts.0 ++ mark ∷ parts.1))
parts_from_call mark place text None s low is split = rw is (refl, λ parts. no_split_from_call mark text None low refl split parts.0 parts.1)
parts_from_call mark place text (Some x) s low is split = rw is (split_from_call mark text (Some x) x low refl split)

-- ---- one division

pub one_split : (mark : ℕ) (a b c d : List ℕ) → Lacks mark a → Lacks mark c → a ++ mark ∷ b ≡ c ++ mark ∷ d → (a ≡ c) × (b ≡ d)
one_split mark [] b [] d in_a in_c is = (refl, cc is)
one_split mark [] b (y ∷ c) d in_a in_c is = absurd (in_c.0 (cc is))
one_split mark (x ∷ a) b [] d in_a in_c is = absurd (in_a.0 (cc is))
one_split mark (x ∷ a) b (y ∷ c) d in_a in_c is =
    let head : x ≡ y = cc is in
    let rest = one_split mark a b c d in_a.1 in_c.1 (cc is) in
    (ap₂ (λ (n : ℕ) (l : List ℕ). n ∷ l) head rest.0, rest.1)

digits_lack : (mark : ℕ) → ¬ IsInRange 48 57 mark → (text : List ℕ) → AllDigits 10 text → Lacks mark text
digits_lack mark other [] h = tt
digits_lack mark other (c ∷ cs) h =
    (λ is. other (subst (IsInRange 48 57) is (digit_from_value c h.0)), digits_lack mark other cs h.1)

-- a number's text has only digits
pub number_lacks : (mark n : ℕ) → ¬ IsInRange 48 57 mark → n < 2 ^ 64 → Lacks mark (decimal n)
number_lacks mark n other small = digits_lack mark other (decimal n) (AllDigits-decimal n small)

pub lacks-append : (mark : ℕ) (a b : List ℕ) → Lacks mark a → Lacks mark b → Lacks mark (a ++ b)
lacks-append mark [] b in_a in_b = in_b
lacks-append mark (x ∷ a) b in_a in_b = (in_a.0, lacks-append mark a b in_a.1 in_b)

-- ---- numbers before dots

dot_is_no_digit : ¬ IsInRange 48 57 46
dot_is_no_digit h = absurd (omega (arith, h.0))

-- the number before the first dot is one
pub one_before_dot : (text front rest behind : List ℕ) (n : ℕ) → SplitsAt 46 text front behind → n < 256 → text ≡ decimal n ++ 46 ∷ rest
    → (front ≡ decimal n) × (behind ≡ rest)
one_before_dot text front rest behind n split small is =
    one_split 46 front behind (decimal n) rest split.1 (number_lacks 46 n dot_is_no_digit (omega (arith, small))) (sym split.0 ∙ is)

pub same_behind_dot : (text rest behind : List ℕ) (m n : ℕ) → m < 256 → text ≡ decimal m ++ 46 ∷ rest → n < 256
    → text ≡ decimal n ++ 46 ∷ behind → rest ≡ behind
same_behind_dot text rest behind m n m_small is_m n_small is_n =
    (one_before_dot text (decimal m) behind rest n (is_m, number_lacks 46 m dot_is_no_digit (omega (arith, m_small))) n_small is_n).1

-- a number before a dot, where there is none
pub no_number_before : (text front behind : List ℕ) → SplitsAt 46 text front behind → ((n : ℕ) → ¬ NumberText 255 n front)
    → (parts : ℕ × List ℕ) → ¬ ((parts.0 < 256) × (text ≡ decimal parts.0 ++ 46 ∷ parts.1))
no_number_before text front behind split none parts h =
    none parts.0 (omega (arith, h.0), (one_before_dot text front parts.1 behind parts.0 split h.0 h.1).0)

-- ---- addresses

byte_at : (bytes : List ℕ) → AllByRecursion (λ byte. byte < 2 ^ 8) bytes → (i : ℕ) → i < length bytes → get_or bytes i 0 < 256
byte_at [] all i lt = absurd (omega (arith, lt))
byte_at (b ∷ bytes) all zero lt = omega (arith, all.0)
byte_at (b ∷ bytes) all (suc i) lt = byte_at bytes all.1 i (omega (arith, lt))

pub no_first : (text : List ℕ) → ((parts : ℕ × List ℕ) → ¬ ((parts.0 < 256) × (text ≡ decimal parts.0 ++ 46 ∷ parts.1)))
    → (address : List ℕ) → ¬ AddressText address text
no_first text none address h = none (get_or address 0 0, _) (byte_at address h.1 0 (omega (arith, h.0)), h.2)

-- the rest of an address's text, behind its first number
tail_of : (text rest : List ℕ) (n : ℕ) → n < 256 → text ≡ decimal n ++ 46 ∷ rest → (address : List ℕ) → AddressText address text
    → rest ≡ decimal (get_or address 1 0) ++ 46 ∷ (decimal (get_or address 2 0) ++ 46 ∷ decimal (get_or address 3 0))
tail_of text rest n small is address h =
    same_behind_dot text rest _ n (get_or address 0 0) small is (byte_at address h.1 0 (omega (arith, h.0))) h.2

pub no_second : (text rest : List ℕ) (n : ℕ) → n < 256 → text ≡ decimal n ++ 46 ∷ rest
    → ((parts : ℕ × List ℕ) → ¬ ((parts.0 < 256) × (rest ≡ decimal parts.0 ++ 46 ∷ parts.1)))
    → (address : List ℕ) → ¬ AddressText address text
no_second text rest n small is none address h =
    none (get_or address 1 0, _) (byte_at address h.1 1 (omega (arith, h.0)), tail_of text rest n small is address h)

-- the rest behind the second number
second_tail_of : (text rest last : List ℕ) (m n : ℕ) → m < 256 → text ≡ decimal m ++ 46 ∷ rest → n < 256 → rest ≡ decimal n ++ 46 ∷ last
    → (address : List ℕ) → AddressText address text → last ≡ decimal (get_or address 2 0) ++ 46 ∷ decimal (get_or address 3 0)
second_tail_of text rest last m n m_small is_m n_small is_n address h =
    same_behind_dot rest last _ n (get_or address 1 0) n_small is_n (byte_at address h.1 1 (omega (arith, h.0)))
    (tail_of text rest m m_small is_m address h)

pub no_third : (text rest last : List ℕ) (m n : ℕ) → m < 256 → text ≡ decimal m ++ 46 ∷ rest → n < 256 → rest ≡ decimal n ++ 46 ∷ last
    → ((parts : ℕ × List ℕ) → ¬ ((parts.0 < 256) × (last ≡ decimal parts.0 ++ 46 ∷ parts.1)))
    → (address : List ℕ) → ¬ AddressText address text
no_third text rest last m n m_small is_m n_small is_n none address h =
    none (get_or address 2 0, _) (byte_at address h.1 2 (omega (arith, h.0)), second_tail_of text rest last m n m_small is_m n_small is_n address h)

pub no_fourth : (text rest last fourth : List ℕ) (l m n : ℕ) → l < 256 → text ≡ decimal l ++ 46 ∷ rest → m < 256
    → rest ≡ decimal m ++ 46 ∷ last → n < 256 → last ≡ decimal n ++ 46 ∷ fourth → ((number : ℕ) → ¬ NumberText 255 number fourth)
    → (address : List ℕ) → ¬ AddressText address text
no_fourth text rest last fourth l m n l_small is_l m_small is_m n_small is_n none address h =
    let byte = byte_at address h.1 3 (omega (arith, h.0)) in
    none (get_or address 3 0) (
      omega (arith, byte),
      same_behind_dot last fourth _ n (get_or address 2 0) n_small is_n
          (byte_at address h.1 2 (omega (arith, h.0))) (second_tail_of text rest last l m l_small is_l m_small is_m address h),
    )

-- the numbers and dots of an address have no other mark
pub address_lacks : (mark : ℕ) (text address : List ℕ) → ¬ IsInRange 48 57 mark → 46 ≢ mark → AddressText address text → Lacks mark text
address_lacks mark text address other no_dot h =
    let number : (i : ℕ) → i < 4 → Lacks mark (decimal (get_or address i 0)) =
    λ i lt. number_lacks mark (get_or address i 0) other
    (let byte = byte_at address h.1 i (omega (arith, h.0, lt)) in omega (arith, byte)) in
    let after : (front behind : List ℕ) → Lacks mark front → Lacks mark behind → Lacks mark (front ++ 46 ∷ behind) =
    λ front behind in_front in_behind. lacks-append mark front (46 ∷ behind) in_front (no_dot, in_behind) in
    rw (h.2) (after _ _ (number 0 (omega arith)) (after _ _ (number 1 (omega arith)) (after _ _ (number 2 (omega arith)) (number 3 (omega arith)))))
