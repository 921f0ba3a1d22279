-- An object to which fields were told, ended and made a line.
use Rattle.std.proofs.Common.{◌≡◌, ◌≤◌, ℕ, List, [], ◌∷◌, ◌++◌, fold, ap, subst, ◌∙◌}
use Rattle.json.specs.Token.{Token, begin_object, end_object}
use Rattle.json.specs.Print.{print}
use Rattle.nb_telling.specs.Telling.{Field}
use Rattle.nb_telling.specs.Members.{AreMembers, IsJson}
use Rattle.nb_telling.specs.Tokens.{field_tokens, object_of, tokens_of}
use Rattle.nb_telling.proofs.FoldLemmas.{appended}
use Rattle.nb_telling.specs.ObjectLines.{IsObject, object_line}

-- what a field adds to an object
abbrev pub adds : List Token → Field → List Token
adds tokens field = tokens ++ field_tokens field

-- the tokens of an object to which fields were told
pub told_tokens : (old new : List Token) (fields : List Field) → old ≡ begin_object ∷ [] → new ≡ fold adds old fields
    → new ≡ begin_object ∷ tokens_of fields
told_tokens old new fields begun told =
    told ∙ appended field_tokens old fields ∙ ap (λ (ts : List Token). ts ++ tokens_of fields) begun

-- the object, as a line
told_line : (old new : List Token) (fields : List Field) (ended made : List ℕ) → old ≡ begin_object ∷ [] → new ≡ fold adds old fields
    → ended ≡ print (new ++ end_object ∷ []) → made ≡ ended ++ 10 ∷ [] → made ≡ object_line fields
told_line old new fields ended made begun told is line =
    line ∙ ap (λ (bs : List ℕ). bs ++ 10 ∷ []) (is ∙ ap (λ (ts : List Token). print (ts ++ end_object ∷ [])) (told_tokens old new fields begun told))

-- it is a value
told_json : (old new : List Token) (fields : List Field) (depth : ℕ) (ended : List ℕ) → old ≡ begin_object ∷ [] → new ≡ fold adds old fields
    → ended ≡ print (new ++ end_object ∷ []) → AreMembers depth fields → depth ≤ 60
    → ((d : ℕ) (fs : List Field) → AreMembers d fs → d ≤ 60 → new ≡ begin_object ∷ tokens_of fs → IsJson ended) → IsJson (object_of fields)
told_json old new fields depth ended begun told is are low json =
    let whole = told_tokens old new fields begun told in
    subst IsJson (is ∙ ap (λ (ts : List Token). print (ts ++ end_object ∷ [])) whole) (json depth fields are low whole)

-- both
pub told_object : (old new : List Token) (fields : List Field) (depth : ℕ) (ended made : List ℕ) → old ≡ begin_object ∷ [] → new ≡ fold adds old fields
    → ended ≡ print (new ++ end_object ∷ []) → AreMembers depth fields → depth ≤ 60
    → ((d : ℕ) (fs : List Field) → AreMembers d fs → d ≤ 60 → new ≡ begin_object ∷ tokens_of fs → IsJson ended) → made ≡ ended ++ 10 ∷ []
    → IsObject fields made
told_object old new fields depth ended made begun told is are low json line = record {
  json = told_json old new fields depth ended begun told is are low json;
  is = told_line old new fields ended made begun told is line;
}
