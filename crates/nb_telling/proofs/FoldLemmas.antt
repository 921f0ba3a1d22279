-- What fields told one after the other leave.
use Rattle.std.proofs.Common.{◌≡◌, List, [], ◌∷◌, ◌++◌, fold, flat_map, sym, ap, ◌∙◌}
use Rattle.std.proofs.lemmas.Grind.{flat_map-append}
use Rattle.std.proofs.lemmas.List.{append_assoc, append-nil}
use Rattle.std.proofs.lemmas.List.Sums.{fold-append}
use Rattle.nb_telling.specs.Telling.{Field}

-- some fields, and then others
pub told_both : {S : Type 0} (after : S → Field → S) (s : S) (xs ys : List Field)
    → fold after s (xs ++ ys) ≡ fold after (fold after s xs) ys
told_both after s xs ys = fold-append after s xs ys

-- the same, where the others were told to what the first left
pub and_then : {S : Type 0} (after : S → Field → S) (s : S) (xs ys : List Field) {mid new : S}
    → mid ≡ fold after s xs → new ≡ fold after mid ys → new ≡ fold after s (xs ++ ys)
and_then after s xs ys first more = more ∙ ap (λ t. fold after t ys) first ∙ sym (told_both after s xs ys)

-- the fields of one part more
pub told_more : {S X : Type 0} (after : S → Field → S) (fields : X → List Field) (s : S) (xs : List X) (x : X)
    → fold after s (flat_map fields (xs ++ x ∷ [])) ≡ fold after (fold after s (flat_map fields xs)) (fields x)
told_more after fields s xs x =
    ap (fold after s) (flat_map-append fields xs (x ∷ []))
    ∙ fold-append after s (flat_map fields xs) (fields x ++ [])
    ∙ ap (λ (ys : List Field). fold after (fold after s (flat_map fields xs)) ys) (append-nil (fields x))

-- a sink that adds a piece for each field
pub appended : {A : Type 0} (piece : Field → List A) (s : List A) (fields : List Field)
    → fold (λ xs field. xs ++ piece field) s fields ≡ s ++ flat_map piece fields
appended piece s [] = sym (append-nil s)
appended piece s (field ∷ fields) =
    appended piece (s ++ piece field) fields ∙ append_assoc s (piece field) (flat_map piece fields)
