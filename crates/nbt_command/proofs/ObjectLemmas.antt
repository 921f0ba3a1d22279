-- The objects that are printed of lines of a capture.
use Rattle.nbt_command.proofs.Common.{◌≡◌, ◌≤◌, ℕ, List, [], ◌∷◌, ◌++◌, arith, Packet, Tick}
use Rattle.std.proofs.Common.{fold}
use Rattle.json.specs.Token.{Token, begin_object, end_object}
use Rattle.json.specs.Print.{print}
use Rattle.nb_telling.specs.Telling.{Field, Number, Text}
use Rattle.nb_telling.specs.Members.{AreMembers, IsJson, nothing, member, both}
use Rattle.nb_telling.specs.Tokens.{tokens_of}
use Rattle.nb_telling.proofs.FoldLemmas.{and_then}
use Rattle.nb_telling.specs.ObjectLines.{IsObject}
use Rattle.nb_telling.proofs.ObjectLemmas.{adds, told_object}
use Rattle.nb_capture.specs.declared.line.Line as capture
use Rattle.nbt_command.specs.Objects.{ObjectOf, TellsFields, arrival_fields, comment_fields, comment_tag, head_fields, line_tag}

-- ---- what objects of lines begin with

comment_members : {depth : ℕ} (comment : List ℕ) → AreMembers depth (comment_fields comment)
comment_members [] = nothing
comment_members (c ∷ cs) = member (Text comment_tag (c ∷ cs)) tt

arrival_members : {depth : ℕ} (value : capture.Line) → AreMembers depth (arrival_fields value)
arrival_members (Packet port moment payload) = both (_ ∷ []) (_ ∷ []) (member _ tt) (member _ tt)
arrival_members (Tick now) = member _ tt

head_members : {depth : ℕ} (n : ℕ) (value : capture.Line) (comment : List ℕ) → AreMembers depth (head_fields n value comment)
head_members n value comment =
    both (Number line_tag n ∷ []) (arrival_fields value ++ comment_fields comment) (member (Number line_tag n) tt)
    (both (arrival_fields value) (comment_fields comment) (arrival_members value) (comment_members comment))

pub line_made : (AreFields : List Field → Type 0) (n : ℕ) (value : capture.Line) (comment : List ℕ) (begun headed told : List Token)
    (ended made : List ℕ) → begun ≡ begin_object ∷ [] → headed ≡ fold adds begun (head_fields n value comment)
    → TellsFields AreFields adds headed told → ended ≡ print (told ++ end_object ∷ [])
    → ((d : ℕ) (fs : List Field) → AreMembers d fs → d ≤ 60 → told ≡ begin_object ∷ tokens_of fs → IsJson ended)
    → made ≡ ended ++ 10 ∷ [] → ObjectOf AreFields n value comment made
line_made AreFields n value comment begun headed told ended made begins head t is json line =
    let front = head_fields n value comment in
    let seen = and_then adds begun front t.fields head t.seen in record {
      fields = t.fields;
      are = t.are;
      object = told_object begun told (front ++ t.fields) t.depth ended made begins seen is
          (both front t.fields (head_members n value comment) t.members) t.low json line;
    }

pub comment_made : (n : ℕ) (comment : List ℕ) (begun told : List Token) (ended made : List ℕ) → begun ≡ begin_object ∷ []
    → told ≡ fold adds begun (Number line_tag n ∷ Text comment_tag comment ∷ []) → ended ≡ print (told ++ end_object ∷ [])
    → ((d : ℕ) (fs : List Field) → AreMembers d fs → d ≤ 60 → told ≡ begin_object ∷ tokens_of fs → IsJson ended)
    → made ≡ ended ++ 10 ∷ [] → IsObject (Number line_tag n ∷ Text comment_tag comment ∷ []) made
comment_made n comment begun told ended made begins seen is json line =
    let members : AreMembers 0 (Number line_tag n ∷ Text comment_tag comment ∷ []) =
    both (Number line_tag n ∷ []) (Text comment_tag comment ∷ []) (member (Number line_tag n) tt) (member (Text comment_tag comment) tt) in
    told_object begun told (Number line_tag n ∷ Text comment_tag comment ∷ []) 0 ended made begins seen is members (omega arith) json line
