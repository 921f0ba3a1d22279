-- Texts between spaces, and the names of a new station.
use Rattle.nb_calls.proofs.Common.{◌≡◌, ◌==◌, ◌+◌, ℕ, Bool, true, false, List, [], ◌∷◌, ◌++◌, length, Result, Ok, Err, refl, sym, ap, subst, inl, inr, arith, slice_index_or, length-append, All, Contains, slice_split, onto_first, join_with_byte, cases_eq, nat_tests, TextFault, NetbiosName, Refusal, Memory, Fault, FaultAt, AreNames, all, bad, present, too_many, more, bad_name, BeginsWithName, Names, NamesText, is_space, texts_in}
use Rattle.std.proofs.lemmas.List.Elements.{All-contains_itself, All-cons, All-nil, All-head, All-tail}
use Rattle.std.proofs.lemmas.Map.Made.{Contains-tail}
use Rattle.std.proofs.lemmas.List.Splits.{slice_split_at, slice_split_none, slice_split-cons_yes, slice_split-cons_no, join_with_byte-slice_split}
use Rattle.nb_calls.proofs.NameLemmas.{TextLaws}

-- ---- texts between spaces

not_space : (bytes : List ℕ) (byte : ℕ) → ¬ Contains bytes 32 → Contains bytes byte → is_space byte ≡ false
not_space bytes byte clear among =
    elim (cases_eq byte 32) [
      | inl same ↦ absurd (clear (subst (Contains bytes) same among))
      | inr differ ↦ grind (arith, nat_tests, differ)
    ]

none_is_space : (bytes : List ℕ) → ¬ Contains bytes 32 → All (λ byte. is_space byte ≡ false) bytes
none_is_space bytes clear k d short =
    not_space bytes (slice_index_or bytes k d) clear (All-contains_itself bytes k d short)

-- bytes without a space are one text
pub last_text : (bytes : List ℕ) → ¬ Contains bytes 32 → slice_split is_space bytes ≡ bytes ∷ []
last_text bytes clear = slice_split_none is_space bytes (none_is_space bytes clear)

-- what stands before the first space is the first text
pub next_text : (text rest : List ℕ) → ¬ Contains text 32
    → slice_split is_space (text ++ 32 ∷ rest) ≡ text ∷ slice_split is_space rest
next_text text rest clear = slice_split_at is_space text 32 rest (none_is_space text clear) refl

-- where there are bytes there are texts
pub texts_between : (bytes : List ℕ) → (length bytes == 0) ≡ false → texts_in bytes ≡ slice_split is_space bytes
texts_between [] some = absurd (cc)
texts_between (byte ∷ bytes) some = refl

-- ---- the names

-- no text is of no name
pub no_text : (bytes : List ℕ) → (length bytes == 0) ≡ true → AreNames 0 [] (texts_in bytes) (Ok [])
no_text [] none = all
no_text (byte ∷ bytes) none = absurd (grind (arith, nat_tests, none))

-- IsNaming texts rest place held: the names of the texts before the rest, which begins at the place, are held
pub record IsNaming (texts rest : List ℕ) (place : ℕ) (held : List NetbiosName) : Type 0 where
  pub within : place + length rest ≡ length texts
  pub follows : (answer : Result (List NetbiosName) Refusal) → AreNames place held (slice_split is_space rest) answer
      → AreNames 0 [] (slice_split is_space texts) answer
  pub first : BeginsWithName (slice_split is_space rest) → BeginsWithName (slice_split is_space texts)

-- one more text is read
pub naming_more : (texts rest text others : List ℕ) (place : ℕ) (held new : List NetbiosName) → rest ≡ text ++ 32 ∷ others
    → ¬ Contains text 32 → NamesText place held text new (Ok tt) → IsNaming texts rest place held
    → IsNaming texts others (place + (length text + 1)) new
naming_more texts rest text others place held new whole clear named before =
    let parts = subst (λ (bytes : List ℕ). slice_split is_space bytes ≡ text ∷ slice_split is_space others) (sym whole) (next_text text others clear) in
    record {
      within = omega (arith, before.within, ap length whole, length-append text (32 ∷ others));
      follows = λ answer h. before.follows answer (subst (λ (words : List (List ℕ)). AreNames place held words answer) (sym parts)
          (named.1 (slice_split is_space others) answer (subst (λ (at : ℕ). AreNames at new (slice_split is_space others) answer) (omega arith) h)));
      first = λ h. before.first (subst BeginsWithName (sym parts) named.0);
    }

-- the last is
pub naming_done : (texts rest : List ℕ) (place : ℕ) (held new : List NetbiosName) → ¬ Contains rest 32
    → NamesText place held rest new (Ok tt) → IsNaming texts rest place held → Names (slice_split is_space texts) (Ok new)
naming_done texts rest place held new clear named before =
    before.follows (Ok new) (subst (λ (words : List (List ℕ)). AreNames place held words (Ok new)) (sym (last_text rest clear))
    (named.1 [] (Ok new) all))

-- a text isn't, which begins the rest
fails_here : (texts rest text : List ℕ) (words : List (List ℕ)) (place : ℕ) (held new : List NetbiosName) (refusal : Refusal)
    → slice_split is_space rest ≡ text ∷ words → NamesText place held text new (Err refusal) → IsNaming texts rest place held
    → Names (slice_split is_space texts) (Err refusal)
fails_here texts rest text words place held new Memory parts named before =
    before.first (subst BeginsWithName (sym parts) named.0)
fails_here texts rest text words place held new (Fault status) parts named before =
    before.follows _ (subst (λ (each : List (List ℕ)). AreNames place held each (Err (Fault status))) (sym parts) (named words))
fails_here texts rest text words place held new (FaultAt status at) parts named before =
    before.follows _ (subst (λ (each : List (List ℕ)). AreNames place held each (Err (FaultAt status at))) (sym parts) (named words))

pub fails_inside : (texts rest text others : List ℕ) (place : ℕ) (held new : List NetbiosName) (refusal : Refusal)
    → rest ≡ text ++ 32 ∷ others → ¬ Contains text 32 → NamesText place held text new (Err refusal)
    → IsNaming texts rest place held → Names (slice_split is_space texts) (Err refusal)
fails_inside texts rest text others place held new refusal whole clear named before =
    fails_here texts rest text (slice_split is_space others) place held new refusal
    (subst (λ (bytes : List ℕ). slice_split is_space bytes ≡ text ∷ slice_split is_space others) (sym whole) (next_text text others clear)) named before

pub fails_last : (texts rest : List ℕ) (place : ℕ) (held new : List NetbiosName) (refusal : Refusal) → ¬ Contains rest 32
    → NamesText place held rest new (Err refusal) → IsNaming texts rest place held
    → Names (slice_split is_space texts) (Err refusal)
fails_last texts rest place held new refusal clear named before =
    fails_here texts rest rest [] place held new refusal (last_text rest clear) named before

-- ---- the law on texts

-- the texts, with a space between two, are the bytes
pub texts_joined : (bytes : List ℕ) → join_with_byte 32 (texts_in bytes) ≡ bytes
texts_joined [] = refl
texts_joined (byte ∷ bytes) = join_with_byte-slice_split 32 (byte ∷ bytes)

-- no space is in the text
abbrev IsClear : List ℕ → Type 0
IsClear text = ¬ Contains text 32

no_space : IsClear []
no_space h = absurd (omega (arith, h.1))

one_clear : (byte : ℕ) (text : List ℕ) → is_space byte ≡ false → ¬ Contains text 32 → ¬ Contains (byte ∷ text) 32
one_clear byte text differs clear h = clear (Contains-tail byte text 32 (λ same. absurd (grind (arith, nat_tests, differs, same))) h)

onto_clear : (byte : ℕ) (parts : List (List ℕ)) → is_space byte ≡ false → All IsClear parts
    → All IsClear (onto_first byte parts)
onto_clear byte [] differs clear =
    All-cons IsClear (byte ∷ []) [] (one_clear byte [] differs no_space) (All-nil IsClear)
onto_clear byte (part ∷ parts) differs clear =
    All-cons IsClear (byte ∷ part) parts (one_clear byte part differs (All-head IsClear part parts clear)) (All-tail IsClear part parts clear)

split_clear : (bytes : List ℕ) → All IsClear (slice_split is_space bytes)
split_clear [] = All-cons IsClear [] [] no_space (All-nil IsClear)
split_clear (byte ∷ bytes) = either (is_space byte) refl (split_clear bytes) where
  either : (test : Bool) → is_space byte ≡ test → All IsClear (slice_split is_space bytes)
      → All IsClear (slice_split is_space (byte ∷ bytes))
  either true e clear =
      subst (All IsClear) (sym (slice_split-cons_yes is_space byte bytes e))
      (All-cons IsClear [] (slice_split is_space bytes) no_space clear)
  either false e clear =
      subst (All IsClear) (sym (slice_split-cons_no is_space byte bytes e))
      (onto_clear byte (slice_split is_space bytes) e clear)

-- in none of them is a space
pub texts_clear : (bytes : List ℕ) → All (λ text. ¬ Contains text 32) (texts_in bytes)
texts_clear [] = All-nil IsClear
texts_clear (byte ∷ bytes) = split_clear (byte ∷ bytes)

-- ---- the law on names

-- of the same texts one thing is answered
pub names_one : ((text : List ℕ) → TextLaws text) → {place : ℕ} {held : List NetbiosName} {words : List (List ℕ)}
    {answer other : Result (List NetbiosName) Refusal} → AreNames place held words answer → AreNames place held words other
    → answer ≡ other
names_one laws all all = refl
names_one laws {place} (bad {word = word} f r) (bad g q) = ap (λ (x : TextFault). Err (bad_name place x)) ((laws word).one_fault f g r q)
names_one laws (bad {word = word} f r) (present n q c) = absurd ((laws word).apart n f q r)
names_one laws (bad {word = word} f r) (too_many n q c l) = absurd ((laws word).apart n f q r)
names_one laws (bad {word = word} f r) (more n q c l h) = absurd ((laws word).apart n f q r)
names_one laws (present {word = word} n r c) (bad f q) = absurd ((laws word).apart n f r q)
names_one laws (present n r c) (present m q d) = refl
names_one laws {held = held} (present {word = word} n r c) (too_many m q d l) = absurd (d (subst (Contains held) ((laws word).one n m r q) c))
names_one laws {held = held} (present {word = word} n r c) (more m q d l h) = absurd (d (subst (Contains held) ((laws word).one n m r q) c))
names_one laws (too_many {word = word} n r c l) (bad f q) = absurd ((laws word).apart n f r q)
names_one laws {held = held} (too_many {word = word} n r c l) (present m q d) = absurd (c (subst (Contains held) ((laws word).one m n q r) d))
names_one laws (too_many n r c l) (too_many m q d k) = refl
names_one laws (too_many n r c l) (more m q d k h) = absurd (omega (arith, l, k))
names_one laws (more {word = word} n r c l h) (bad f q) = absurd ((laws word).apart n f r q)
names_one laws {held = held} (more {word = word} n r c l h) (present m q d) = absurd (c (subst (Contains held) ((laws word).one m n q r) d))
names_one laws (more n r c l h) (too_many m q d k) = absurd (omega (arith, l, k))
names_one laws {place} {held} {answer = answer} (more {word = word} {words = words} n r c l h) (more m q d k i) =
    names_one laws (subst (λ (x : NetbiosName). AreNames (place + length word + 1) (held ++ x ∷ []) words answer) ((laws word).one n m r q) h) i
