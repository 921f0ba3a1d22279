-- Fields that are members of an object and have a text: rows of fields, parts, and lists of parts. Fields of which each is a
-- member by itself are both as they stand (`row`).
use Rattle.std.proofs.Common.{◌≡◌, ℕ, suc, ◌-◌, List, [], ◌∷◌, ◌++◌, length, take, drop, codes, refl, sym, ap, ap₂, ◌∙◌, append_assoc, append-nil}
use Rattle.std.specs.List.{AllByRecursion, flat_map}
use Rattle.std.proofs.lemmas.Grind.{flat_map-append}
use Rattle.nb_telling.specs.Members.{AreMembers, AreParts, IsMember, nothing, member, list, both, no_part, part, parts}
use Rattle.nb_telling.specs.Telling.{Field, Ends, Part, PartEnds, LineEnds}
use Rattle.nb_telling.specs.Texts.{field_text, text_of}
use Rattle.nb_text.specs.Fields.{list_fields}

-- Says depth fields text: members that have this text; SaysParts: parts of a list that have it
pub record Says (depth : ℕ) (fields : List Field) (text : List ℕ) : Type 0 where
  pub members : AreMembers depth fields
  pub same : text_of fields ≡ text

pub record SaysParts (depth : ℕ) (fields : List Field) (text : List ℕ) : Type 0 where
  pub parts : AreParts depth fields
  pub same : text_of fields ≡ text

-- ---- rows of fields

-- that each field of a row that is written out is a member by itself, `_` says
pub singles : {depth : ℕ} (fields : List Field) → AllByRecursion IsMember fields → AreMembers depth fields
singles [] h = nothing
singles (field ∷ fields) h = both (field ∷ []) fields (member field h.0) (singles fields h.1)

-- the texts of fields up to the last's, after which nothing stands
abbrev pub laid : List Field → List ℕ
laid [] = []
laid (field ∷ []) = field_text field
laid (field ∷ next ∷ fields) = field_text field ++ laid (next ∷ fields)

laid_same : (fields : List Field) → text_of fields ≡ laid fields
laid_same [] = refl
laid_same (field ∷ []) = append-nil (field_text field)
laid_same (field ∷ next ∷ fields) = ap (λ (t : List ℕ). field_text field ++ t) (laid_same (next ∷ fields))

pub row : {depth : ℕ} (fields : List Field) → AllByRecursion IsMember fields → Says depth fields (laid fields)
row fields h = record { members = singles fields h; same = laid_same fields }

pub both_say : {depth : ℕ} {xs ys : List Field} {s t : List ℕ} → Says depth xs s → Says depth ys t → Says depth (xs ++ ys) (s ++ t)
both_say {depth} {xs} {ys} {s} {t} a b = record {
  members = both xs ys a.members b.members;
  same = flat_map-append field_text xs ys ∙ ap₂ (λ (s t : List ℕ). s ++ t) a.same b.same;
}

pub none_say : {depth : ℕ} → Says depth [] []
none_say = record { members = nothing; same = refl }

-- ---- parts, and lists of them

pub part_says : {depth : ℕ} (lead : List ℕ) {members : List Field} {text : List ℕ} → Says depth members text
    → SaysParts depth (Part lead ∷ (members ++ PartEnds ∷ [])) (lead ++ text)
part_says lead {members} {text} h = record {
  parts = part lead members h.members;
  same = ap (λ (t : List ℕ). lead ++ t) (flat_map-append field_text members (PartEnds ∷ []) ∙ append-nil (text_of members) ∙ h.same);
}

-- the fields between a part's first and its last
abbrev pub inner : List Field → List Field
inner fields = take (length fields - 2) (drop 1 fields)

-- a part that is a line
pub line_says : {depth : ℕ} (lead : List ℕ) (fields : List Field) → AllByRecursion IsMember (inner fields)
    → SaysParts depth (Part lead ∷ (inner fields ++ PartEnds ∷ [])) (lead ++ laid (inner fields))
line_says lead fields h = part_says lead (row (inner fields) h)

-- the fields up to the end of the first line
abbrev pub up_to_end : List Field → List Field
up_to_end [] = []
up_to_end (LineEnds ∷ fields) = LineEnds ∷ []
up_to_end (field ∷ fields) = field ∷ up_to_end fields

-- a section's name, a line, and the lines of its parts
pub then_lines : {depth : ℕ} {fields : List Field} (section line more : List ℕ) → SaysParts depth fields ((codes "  " ++ section) ++ (line ++ more))
    → SaysParts depth fields (((codes "  " ++ section) ++ line) ++ more)
then_lines section line more h = record { parts = h.parts; same = h.same ∙ sym (append_assoc (codes "  " ++ section) line more) }

each_says : {A : Type 0} {depth : ℕ} (fields : A → List Field) (line : A → List ℕ) (xs : List A)
    → ((x : A) → SaysParts depth (fields x) (line x)) → SaysParts depth (flat_map fields xs) (flat_map line xs)
each_says fields line [] each = record { parts = no_part; same = refl }
each_says fields line (x ∷ xs) each =
    let rest = each_says fields line xs each in
    record {
      parts = parts (fields x) (flat_map fields xs) (each x).parts rest.parts;
      same = flat_map-append field_text (fields x) (flat_map fields xs) ∙ ap₂ (λ (s t : List ℕ). s ++ t) (each x).same rest.same;
    }

pub list_says : {A : Type 0} {depth : ℕ} (name : List ℕ) (fields : A → List Field) (line : A → List ℕ) (xs : List A)
    → ((x : A) → SaysParts depth (fields x) (line x)) → Says (suc depth) (list_fields name (flat_map fields xs)) (flat_map line xs)
list_says name fields line xs each =
    let all = each_says fields line xs each in
    record {
      members = list name (flat_map fields xs) all.parts;
      same = flat_map-append field_text (flat_map fields xs) (Ends ∷ []) ∙ append-nil (text_of (flat_map fields xs)) ∙ all.same;
    }
