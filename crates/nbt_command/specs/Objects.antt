-- The objects that `--json` prints of the lines of a capture, and of comments (our choice).
use Rattle.std.specs.Prelude.{◌≡◌, ◌≤◌, ℕ, List, [], ◌∷◌, ◌++◌, codes, Option, Some, None, fold}
use Rattle.std.specs.List.{flat_map}
use Rattle.nb_telling.specs.Telling.{Field, FieldTag, Text, Number}
use Rattle.nb_telling.specs.Members.{AreMembers}
use Rattle.nb_telling.specs.ObjectLines.{IsObject}
use Rattle.nb_capture.specs.declared.comment_writing.Comments.{Comments}
use Rattle.nb_capture.specs.declared.comment_writing.Comments.TheVariants.{LeftOut, Printed}
use Rattle.nb_capture.specs.declared.line.Line as capture
use Rattle.nb_capture.specs.declared.line.Line.TheVariants.{Packet, Tick}
use Rattle.nb_capture.specs.Capture.{byte_text}

-- ---- what objects of lines begin with

-- a tag of an object, which no text has
abbrev pub bare_tag : List ℕ → FieldTag
bare_tag name = record { name = name; lead = [] }

-- the number of a line
abbrev pub line_tag : FieldTag
line_tag = bare_tag (codes "line")

-- the port to which a payload came
abbrev pub port_tag : FieldTag
port_tag = bare_tag (codes "port")

-- the moment of a line
abbrev pub moment_tag : FieldTag
moment_tag = bare_tag (codes "moment")

-- the comment that a line is, or that stands before it
abbrev pub comment_tag : FieldTag
comment_tag = bare_tag (codes "comment")

-- a comment, where there is one
abbrev pub comment_fields : List ℕ → List Field
comment_fields [] = []
comment_fields (c ∷ cs) = Text comment_tag (c ∷ cs) ∷ []

-- the port to which a payload came, and the moment
abbrev pub arrival_fields : capture.Line → List Field
arrival_fields (Packet port moment payload) = Number port_tag port ∷ Number moment_tag moment ∷ []
arrival_fields (Tick now) = Number moment_tag now ∷ []

-- head_fields n value comment: of line n, which says this, after this comment
abbrev pub head_fields : ℕ → capture.Line → List ℕ → List Field
head_fields n value comment = Number line_tag n ∷ (arrival_fields value ++ comment_fields comment)

-- ---- what is told of a line

-- TellsFields AreFields after old new: what is seen of a sink after such fields
pub record TellsFields {A : Type 0} (AreFields : List Field → Type 0) (after : A → Field → A) (old new : A) : Type 0 where
  pub fields : List Field
  pub are : AreFields fields
  pub depth : ℕ
  pub low : depth ≤ 60
  pub members : AreMembers depth fields
  pub seen : new ≡ fold after old fields

-- ObjectOf AreFields n value comment text: the object of line n, which says this, after this comment
pub record ObjectOf (AreFields : List Field → Type 0) (n : ℕ) (value : capture.Line) (comment text : List ℕ) : Type 0 where
  pub fields : List Field
  pub are : AreFields fields
  pub object : IsObject (head_fields n value comment ++ fields) text

-- the comment that a line is, or nothing of an empty one
abbrev pub comment_of : List ℕ → List ℕ
comment_of line = flat_map byte_text line

-- PrintsComment n comment text: what is printed of line n where it is this comment, or empty, and comments are printed
abbrev pub PrintsComment : ℕ → List ℕ → List ℕ → Type 0
PrintsComment n [] text = text ≡ []
PrintsComment n (c ∷ cs) text = IsObject (Number line_tag n ∷ Text comment_tag (c ∷ cs) ∷ []) text

-- the same, where comments are printed; nothing where they are left out
abbrev pub CommentObject : Comments → ℕ → List ℕ → List ℕ → Type 0
CommentObject LeftOut n comment text = text ≡ []
CommentObject Printed n comment text = PrintsComment n comment text

-- ObjectSaid AreFields comments n l said old new text: what is printed of l, which is line n and says this, or nothing. From
-- line to line stand the comment that the line before is, and what AreFields goes by
abbrev pub ObjectSaid : {S : Type 0} → (capture.Line → S → S → List Field → Type 0) → Comments → ℕ → List ℕ → Option capture.Line → List ℕ × S → List ℕ × S → List ℕ → Type 0
ObjectSaid AreFields comments n l None old new text =
    CommentObject comments n (comment_of l) text × (new ≡ (comment_of l, old.1))
ObjectSaid AreFields comments n l (Some value) old new text =
    ObjectOf (AreFields value old.1 new.1) n value old.0 text × (new.0 ≡ [])
