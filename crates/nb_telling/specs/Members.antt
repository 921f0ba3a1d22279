-- Fields that are members of an object: each list, and each part of one, ends where it began.
use Rattle.std.specs.Prelude.{◌≡◌, ℕ, suc, List, [], ◌∷◌, ◌++◌, Some, ⊤}
use Rattle.json.specs.Json.{Json, document}
use Rattle.nb_telling.specs.Telling.{Field, Text, Number, Digits, Data, Set, Known, Range, Words, At, Begins, Ends, Part, PartEnds, LineEnds}

-- the field is a member by itself, or nothing
abbrev pub IsMember : Field → Type 0
IsMember (Text tag text) = ⊤
IsMember (Number tag n) = ⊤
IsMember (Digits tag bytes) = ⊤
IsMember (Data tag bytes) = ⊤
IsMember (Set tag names) = ⊤
IsMember (Known tag n) = ⊤
IsMember (Range lead from to) = ⊥
IsMember (Words words) = ⊤
IsMember (At n) = ⊤
IsMember (Begins name) = ⊥
IsMember Ends = ⊥
IsMember (Part lead) = ⊥
IsMember PartEnds = ⊥
IsMember LineEnds = ⊤

-- AreMembers depth fields: members, in which lists stand within parts of lists so many times at most;
-- AreParts depth fields: parts of a list, whose members are so
mutual
  pub data AreMembers : ℕ → List Field → Type 0 where
    nothing : {depth : ℕ} → AreMembers depth []
    member : {depth : ℕ} (field : Field) → IsMember field → AreMembers depth (field ∷ [])
    list : {depth : ℕ} (name : List ℕ) (parts : List Field) → AreParts depth parts
        → AreMembers (suc depth) (Begins name ∷ (parts ++ Ends ∷ []))
    both : {depth : ℕ} (fields others : List Field) → AreMembers depth fields → AreMembers depth others
        → AreMembers depth (fields ++ others)

  pub data AreParts : ℕ → List Field → Type 0 where
    no_part : {depth : ℕ} → AreParts depth []
    part : {depth : ℕ} (lead : List ℕ) (members : List Field) → AreMembers depth members
        → AreParts depth (Part lead ∷ (members ++ PartEnds ∷ []))
    range : {depth : ℕ} (lead : List ℕ) (from to : ℕ) → AreParts depth (Range lead from to ∷ [])
    words : {depth : ℕ} (text : List ℕ) → AreParts depth (Words text ∷ [])
    parts : {depth : ℕ} (fields others : List Field) → AreParts depth fields → AreParts depth others
        → AreParts depth (fields ++ others)

-- the bytes are one value of RFC 8259, by the grammar of the kit's `json`
abbrev pub IsJson : List ℕ → Type 0
IsJson bytes = (json : Json) × (document bytes ≡ Some json)
