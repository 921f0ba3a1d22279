-- What is written of a name is its text.
use Rattle.std.proofs.Common.{◌≡◌, ◌≢◌, ◌==◌, ℕ, ◌+◌, ◌-◌, ◌/◌, ◌%◌, ◌<◌, ◌≤◌, ◌^◌, Bool, true, false, if◌then◌else◌, List, [], ◌∷◌, ◌++◌, length, take, suc, replicate, slice_index, refl, sym, ◌∙◌, ap, subst, arith, append_assoc}
use Rattle.std.specs.List.{AllByRecursion}
use Rattle.std.specs.Char.{digit_value, digit_char}
use Rattle.std.proofs.lemmas.Bool.{eqb-true}
use Rattle.std.proofs.lemmas.Bool.Decides.{nat_tests}
use Rattle.std.proofs.lemmas.List.{take_more, take_all, length-take, length-append, length-replicate}
use Rattle.nb_names.specs.DomainName.{IsLabel, AreByteLabels}
use Rattle.nb_names.specs.Name.{NetbiosName, IsName, IsByteName}
use Rattle.nb_streams.specs.PacketFacts.{All-take, byte_below}
use Rattle.nb_names.specs.NameText.{is_plain, Item, plain, escaped, Items, no_item, more_items, ScopeText, no_label, more_labels, Parts, filled, IsText, item_of, items_of, scope_text_of, kept_before, trimmed, written}
use Rattle.nb_streams.specs.Hexadecimal.{byte_of, digits_of}

-- ---- spaces at the end

trimmed-one : (c : ℕ) → c ≢ 32 → trimmed (c ∷ []) ≡ c ∷ []
trimmed-one c h = grind (arith, nat_tests)

kept_before-some : (b : ℕ) (xs : List ℕ) (c : ℕ) → kept_before b (xs ++ c ∷ []) ≡ b ∷ (xs ++ c ∷ [])
kept_before-some b [] c = refl
kept_before-some b (x ∷ xs) c = refl

-- a space at the end goes
pub trimmed-space : (xs : List ℕ) → trimmed (xs ++ 32 ∷ []) ≡ trimmed xs
trimmed-space [] = refl
trimmed-space (x ∷ xs) = ap (kept_before x) (trimmed-space xs)

-- another byte at the end stays
pub trimmed-other : (xs : List ℕ) (c : ℕ) → c ≢ 32 → trimmed (xs ++ c ∷ []) ≡ xs ++ c ∷ []
trimmed-other [] c h = trimmed-one c h
trimmed-other (x ∷ xs) c h = ap (kept_before x) (trimmed-other xs c h) ∙ kept_before-some x xs c

kept_rest : (x : ℕ) (kept xs : List ℕ) (n : ℕ) → xs ≡ kept ++ replicate n 32 → (m : ℕ) × (x ∷ xs ≡ kept_before x kept ++ replicate m 32)
kept_rest x (y ∷ kept) xs n e = (n, ap (λ (ys : List ℕ). x ∷ ys) e)
kept_rest x [] xs n e = either (x == 32) refl where
  either : (test : Bool) → (x == 32) ≡ test → (m : ℕ) × (x ∷ xs ≡ (if test then [] else x ∷ []) ++ replicate m 32)
  either true is = (suc n, let same = eqb-true x 32 is in cc)
  either false is = (n, ap (λ (ys : List ℕ). x ∷ ys) e)

-- what is left out are spaces
trimmed-rest : (xs : List ℕ) → (n : ℕ) × (xs ≡ trimmed xs ++ replicate n 32)
trimmed-rest [] = (0, refl)
trimmed-rest (x ∷ xs) = let rest = trimmed-rest xs in kept_rest x (trimmed xs) xs rest.0 rest.1

-- filled up with spaces again, fifteen bytes are as they were
filled-trimmed : (xs : List ℕ) → length xs ≡ 15 → filled (trimmed xs) ≡ xs
filled-trimmed xs h =
    let rest = trimmed-rest xs in
    let size : rest.0 ≡ 15 - length (trimmed xs) =
    omega (arith, ap length rest.1, length-append (trimmed xs) (replicate rest.0 32), length-replicate {A = ℕ} rest.0 32) in
    ap (λ (n : ℕ). trimmed xs ++ replicate n 32) (sym size) ∙ sym rest.1

kept-all : (P : ℕ → Type 0) (x : ℕ) (kept : List ℕ) → P x → AllByRecursion P kept → AllByRecursion P (kept_before x kept)
kept-all P x (y ∷ kept) p a = (p, a)
kept-all P x [] p a = either (x == 32) where
  either : (test : Bool) → AllByRecursion P (if test then [] else x ∷ [])
  either true = tt
  either false = (p, tt)

trimmed-all : (P : ℕ → Type 0) (xs : List ℕ) → AllByRecursion P xs → AllByRecursion P (trimmed xs)
trimmed-all P [] a = tt
trimmed-all P (x ∷ xs) a = kept-all P x (trimmed xs) a.0 (trimmed-all P xs a.1)

kept-length : (x : ℕ) (kept : List ℕ) → length (kept_before x kept) ≤ length kept + 1
kept-length x (y ∷ kept) = omega arith
kept-length x [] = either (x == 32) where
  either : (test : Bool) → length (if test then [] else x ∷ []) ≤ 1
  either true = omega arith
  either false = omega arith

trimmed-length : (xs : List ℕ) → length (trimmed xs) ≤ length xs
trimmed-length [] = omega arith
trimmed-length (x ∷ xs) = omega (arith, kept-length x (trimmed xs), trimmed-length xs)

-- ---- items

digit_value-digit_char : (d : ℕ) → d < 16 → digit_value (digit_char d) ≡ d
digit_value-digit_char d h = grind (arith, nat_tests)

item_of-item : (b : ℕ) → b < 256 → Item b (item_of b)
item_of-item b h = either (is_plain b) refl where
  high : digit_value (digit_char (b / 16)) ≡ b / 16
  high = digit_value-digit_char (b / 16) (omega arith)

  low : digit_value (digit_char (b % 16)) ≡ b % 16
  low = digit_value-digit_char (b % 16) (omega arith)

  same : byte_of (digit_char (b / 16)) (digit_char (b % 16)) ≡ b
  same = omega (arith, high, low)

  code : Item b (92 ∷ digits_of b)
  code = rw same at (escaped (digit_char (b / 16)) (digit_char (b % 16)) (omega (arith, high)) (omega (arith, low)))

  either : (test : Bool) → is_plain b ≡ test → Item b (if test then b ∷ [] else 92 ∷ digits_of b)
  either true e = plain b e
  either false e = code

items_of-items : (bs : List ℕ) → AllByRecursion (λ b. b < 2 ^ 8) bs → Items bs (items_of bs)
items_of-items [] a = no_item
items_of-items (b ∷ bs) a = more_items b bs (item_of b) (items_of bs) (item_of-item b a.0) (items_of-items bs a.1)

scope_text_of-scope : (ls : List (List ℕ)) → AllByRecursion IsLabel ls → AreByteLabels ls → ScopeText ls (scope_text_of ls)
scope_text_of-scope [] a b = no_label
scope_text_of-scope (l ∷ ls) a b = more_labels l ls (items_of l) (scope_text_of ls) a.0.0 (items_of-items l b.0) (scope_text_of-scope ls a.1 b.1)

-- ---- the whole text

pub written-text : (name : NetbiosName) → IsName name → AreByteLabels name.scope → IsText name (written name)
written-text name is labels = record {
  parts = parts;
  form = record {
    items = items_of (trimmed (take 15 name.bytes));
    high = digit_char (last / 16);
    low = digit_char (last % 16);
    behind = scope_text_of name.scope;
    front = items_of-items (trimmed (take 15 name.bytes)) (trimmed-all _ (take 15 name.bytes) (All-take _ 15 name.bytes is.each));
    high_digit = omega (arith, high, small);
    low_digit = omega (arith, low);
    last = omega (arith, high, low);
    scope = scope_text_of-scope name.scope is.scope.domain.each labels;
    whole =
        append_assoc (items_of (trimmed (take 15 name.bytes)) ++ 60 ∷ digits_of last) (62 ∷ []) (scope_text_of name.scope)
        ∙ append_assoc (items_of (trimmed (take 15 name.bytes))) (60 ∷ digits_of last) (62 ∷ scope_text_of name.scope);
  };
  limits = record { front = omega (arith, trimmed-length (take 15 name.bytes), size); scope = is.scope };
  exact = λ i. record { bytes = sixteen i; scope = name.scope };
} where
  last : ℕ
  last = slice_index name.bytes 15

  parts : Parts
  parts = record { front = trimmed (take 15 name.bytes); last = last; scope = name.scope }

  small : last < 256
  small = byte_below name.bytes is.each 15

  high : digit_value (digit_char (last / 16)) ≡ last / 16
  high = digit_value-digit_char (last / 16) (omega (arith, small))

  low : digit_value (digit_char (last % 16)) ≡ last % 16
  low = digit_value-digit_char (last % 16) (omega arith)

  size : length (take 15 name.bytes) ≡ 15
  size = omega (arith, length-take 15 name.bytes, is.sixteen)

  sixteen : name.bytes ≡ filled (trimmed (take 15 name.bytes)) ++ last ∷ []
  sixteen =
      sym (take_all 16 name.bytes (omega (arith, is.sixteen))) ∙ take_more name.bytes 15 0 (omega (arith, is.sixteen))
      ∙ ap (λ (front : List ℕ). front ++ last ∷ []) (sym (filled-trimmed (take 15 name.bytes) size))

-- what is written of a name, in its place
pub text_of_written : (name : NetbiosName) (text : List ℕ) → text ≡ written name → IsByteName name → IsText name text
text_of_written name text e is = subst (IsText name) (sym e) (written-text name is.0 is.1)

-- ---- a loop over labels

-- writing a label leaves what is left to write
pub label_turn : (label : List ℕ) (labels : List (List ℕ)) (before after whole : List ℕ) → after ≡ before ++ 46 ∷ items_of label → before ++ scope_text_of (label ∷ labels) ≡ whole → after ++ scope_text_of labels ≡ whole
label_turn label labels before after whole a w = rw a (append_assoc before (46 ∷ items_of label) (scope_text_of labels) ∙ w)
