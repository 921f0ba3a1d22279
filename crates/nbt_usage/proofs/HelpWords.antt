-- The words behind `help`, as one text.
use Rattle.std.specs.Prelude.{IfOk, IfSome, IsOkAnd, IsSomeAnd, ◌-◌, ◌⊎◌}
use Rattle.std.proofs.Common.{inl, inr}
use Rattle.nbt_usage.proofs.Common.{Err, None, Ok, OnErr, Option, Result, Some, ◌≡◌, ◌≤◌, ◌++◌, ◌∙◌, ℕ, List, [], ◌∷◌, drop, take, length, map, get_or, codes, arith, refl, sym, ap}
use Rattle.std.proofs.lemmas.List.{take_rest}
use Rattle.std.proofs.lemmas.List.Folds.{flat_map-map}
use Rattle.std.specs.List.{join_by}
use Rattle.nbt_usage.specs.Code.HelpWords.{AreBehindHelp}
use Rattle.nbt_usage.specs.Refusals.{AsksHelp, AsksRefusal, spaced}

-- three words or more, of which the second is `help`
pub behind : {A : Type 0} (f : A → List ℕ) (words : List A) (help : A) → 3 ≤ length words → help ≡ get_or words 1 help → f help ≡ codes "help"
    → AreBehindHelp (map f words) (map f (take (length words - 2) (drop 2 words)))
behind f [] help most is said = absurd (omega (arith, most))
behind f (a ∷ []) help most is said = absurd (omega (arith, most))
behind f (a ∷ b ∷ []) help most is said = absurd (omega (arith, most))
behind f (a ∷ b ∷ d ∷ words) help most is said = rw (take_rest (a ∷ b ∷ d ∷ words) 2)
    (f a, ap (λ (w : List ℕ). f a ∷ w ∷ f d ∷ map f words) (ap f (sym is) ∙ said), (λ none. absurd (cc none)))

-- two words or more, of which the second is `help`
pub asks_help : {A : Type 0} (f : A → List ℕ) (words : List A) (help : A) → 2 ≤ length words → help ≡ get_or words 1 help → f help ≡ codes "help"
    → AsksHelp (map f words)
asks_help f [] help most is said = absurd (omega (arith, most))
asks_help f (a ∷ []) help most is said = absurd (omega (arith, most))
asks_help f (a ∷ b ∷ words) help most is said = (f a, map f words, ap (λ (w : List ℕ). f a ∷ w ∷ map f words) (ap f (sym is) ∙ said))

-- which may be a refusal's
pub asks : (words texts : List (List ℕ)) → AreBehindHelp words texts → AsksRefusal words
asks words [] behind = absurd (behind.2 refl)
asks words (text ∷ rest) behind = (behind.0, text, rest, behind.1)

-- words as one text, and the texts of what holds them
spaced_texts : {A : Type 0} (f : A → List ℕ) (words : List A) → join_by f (codes " ") words ≡ spaced (map f words)
spaced_texts f [] = refl
spaced_texts f (a ∷ words) = ap (λ (t : List ℕ). f a ++ t) (sym (flat_map-map (λ (t : List ℕ). codes " " ++ t) f words))

-- the words behind `help` as one text
pub joined : {A : Type 0} (f : A → List ℕ) (words : List (List ℕ)) (held texts : List A) (program : List ℕ) (rest : List (List ℕ)) → held ≡ texts
    → AreBehindHelp words (map f texts) → words ≡ program ∷ codes "help" ∷ rest → join_by f (codes " ") held ≡ spaced rest
joined f words held texts program rest is behind are =
    let same : map f texts ≡ rest = cc (are, behind.1) in
    rw is (spaced_texts f texts ∙ ap spaced same)

-- ---- what holds anyway

pub on_err : {A E P : Type 0} (r : Result A E) → P → OnErr r P
on_err (Ok a) p = tt
on_err (Err e) p = p

pub if_same : {A E X : Type 0} (P : A → Type 0) (r : Result (Option A) E) → X ⊎ IsOkAnd r (λ found. IsSomeAnd found P) → X ⊎ IfOk r (λ found. IfSome found P)
if_same P r (inl none) = inl none
if_same P (Ok None) (inr same) = inr tt
if_same P (Ok (Some a)) (inr same) = inr same
if_same P (Err e) (inr same) = inr tt
