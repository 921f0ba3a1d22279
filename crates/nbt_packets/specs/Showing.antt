-- What `nbt show` prints of a line of a capture (our choice). Numbers are decimal. Comments are printed, each in its place, or
-- left out.
use Rattle.std.specs.Prelude.{◌≡◌, ◌++◌, ℕ, List, codes, Option, Some, None}
use Rattle.std.specs.Fmt.{decimal}
use Rattle.nb_capture.specs.declared.comment_writing.Comments.{Comments}
use Rattle.nb_capture.specs.declared.line.Line as capture
use Rattle.nb_capture.specs.declared.line.Line.TheVariants.{Packet, Tick}
use Rattle.nb_capture.specs.Capture.{blank_text}
use Rattle.nb_text.specs.Lines.{line_end}
use Rattle.nb_text.specs.SaysPacket.{IsSaid}
use Rattle.nb_capture.specs.LinePrinting.{TellsLine}

-- what IsText payload port text says: that this is the text of a payload that came to the port
abbrev pub PayloadText : Type 1
PayloadText = List ℕ → ℕ → List ℕ → Type 0

-- ShowsValue IsText n value text: the text of line n of a capture, which says this: its number, then the port and the payload's
-- text, or `tick` and the moment
pub data ShowsValue (IsText : PayloadText) (n : ℕ) : capture.Line → List ℕ → Type 0 where
  packet : (port moment : ℕ) (payload text : List ℕ) → IsText payload port text
      → ShowsValue IsText n (Packet port moment payload) (decimal n ++ (codes " " ++ (decimal port ++ (codes " " ++ text))))
  tick : (now : ℕ) → ShowsValue IsText n (Tick now) (decimal n ++ (codes " tick " ++ (decimal now ++ line_end)))

-- ShowsSaid IsText comments n l said text: the text of l, which is line n and says this, or nothing: then its comment is
-- printed, or nothing
abbrev pub ShowsSaid : PayloadText → Comments → ℕ → List ℕ → Option capture.Line → List ℕ → Type 0
ShowsSaid IsText comments n l None text = text ≡ blank_text comments l
ShowsSaid IsText comments n l (Some value) text = ShowsValue IsText n value text

-- the same, whatever stands before the line
abbrev pub Said : PayloadText → Comments → ℕ → List ℕ → Option capture.Line → Unit {0} → Unit {0} → List ℕ → Type 0
Said IsText comments n l said s t text = ShowsSaid IsText comments n l said text

-- the text that is shown of a line
abbrev pub ShowsLine : PayloadText → Comments → ℕ → List ℕ → Unit {0} → Unit {0} → List ℕ → Type 0
ShowsLine IsText comments = TellsLine (Said IsText comments)

-- IsBrief payload port text: the phrase of a payload as the rest of a line
pub record IsBrief (payload : List ℕ) (port : ℕ) (text : List ℕ) : Type 0 where
  pub phrase : List ℕ
  pub said : IsSaid payload port phrase
  pub is : text ≡ phrase ++ line_end
