-- Items that are read one after the other: what holds of those that were read, and what is added for them.
use Rattle.std.proofs.Common.{◌≡◌, ℕ, ◌+◌, List, [], ◌∷◌, ◌++◌, take, Some, fold, sym, ap, ◌∙◌, subst}
use Rattle.std.specs.List.{flat_map, slice_get}
use Rattle.std.proofs.lemmas.Grind.{flat_map-append}
use Rattle.std.proofs.lemmas.List.{append-nil, take_more}
use Rattle.std.proofs.lemmas.List.Sums.{fold-append}
use Rattle.std.proofs.lemmas.Option.{slice_get_within, get_or_from_slice_get}
use Rattle.nb_telling.specs.Telling.{Field, Begins, Ends}
use Rattle.nb_telling.proofs.FoldLemmas.{told_both}
use Rattle.nb_text.specs.Fields.{list_fields}
use Rattle.nb_service.specs.Code.Steps.{RowOf}

-- as many items and one more
pub take_one_more : {A : Type 0} (xs : List A) (i : ℕ) (x : A) → slice_get xs i ≡ Some x → take (i + 1) xs ≡ take i xs ++ x ∷ []
take_one_more xs i x at =
    take_more xs i x (slice_get_within xs i x at) ∙ ap (λ (y : _). take i xs ++ y ∷ []) (get_or_from_slice_get xs i x x at)

-- the pieces or fields of one item more
pub each_more : {S F A : Type 0} (after : S → F → S) (f : A → List F) (s : S) (xs : List A) (x : A)
    → fold after s (flat_map f (xs ++ x ∷ [])) ≡ fold after (fold after s (flat_map f xs)) (f x)
each_more {S} {F} after f s xs x =
    ap (fold after s) (flat_map-append f xs (x ∷ [])) ∙ fold-append after s (flat_map f xs) (f x ++ [])
    ∙ ap (λ (ys : List F). fold after (fold after s (flat_map f xs)) ys) (append-nil (f x))

-- a turn that added them
pub turn_more : {S F A : Type 0} (after : S → F → S) (f : A → List F) (xs : List A) (x : A) (old mid new : S)
    → mid ≡ fold after old (flat_map f xs) → new ≡ fold after mid (f x) → new ≡ fold after old (flat_map f (xs ++ x ∷ []))
turn_more after f xs x old mid new before told = told ∙ ap (λ (s : _). fold after s (f x)) before ∙ sym (each_more after f old xs x)

-- the same, where the item was looked up
pub row_more : {S F A : Type 0} (after : S → F → S) (f : A → List F) (xs : List A) (i : ℕ) (x : A) (old mid new : S)
    → slice_get xs i ≡ Some x → mid ≡ fold after old (flat_map f (take i xs)) → new ≡ fold after mid (f x)
    → new ≡ fold after old (flat_map f (take (i + 1) xs))
row_more {S} {F} {A} after f xs i x old mid new at before told =
    turn_more after f (take i xs) x old mid new before told
    ∙ ap (λ (ys : List A). fold after old (flat_map f ys)) (sym (take_one_more xs i x at))

-- a list of this name, of which these are the parts
pub list_told : {S : Type 0} (after : S → Field → S) (name : List ℕ) (parts : List Field) (old begun mid new : S)
    → begun ≡ after old (Begins name) → mid ≡ fold after begun parts → new ≡ after mid Ends → new ≡ fold after old (list_fields name parts)
list_told {S} after name parts old begun mid new first told last =
    last ∙ ap (λ (s : S). after s Ends) (told ∙ ap (λ (s : S). fold after s parts) first)
    ∙ sym (told_both after (after old (Begins name)) parts (Ends ∷ []))

-- a row that stands where another one ended
pub row_from : {A : Type 0} (S : ℕ → A → ℕ → Type 0) (at here count next : ℕ) (items : List A) → at ≡ here → RowOf S here count items next → RowOf S at count items next
row_from {A} S at here count next items same row = subst (λ (n : ℕ). RowOf S n count items next) (sym same) row

-- FieldsSeen after fields old now items: the fields of these items were told
abbrev pub FieldsSeen : {S F A : Type 0} → (S → F → S) → (A → List F) → S → S → List A → Type 0
FieldsSeen after fields old now items = now ≡ fold after old (flat_map fields items)
