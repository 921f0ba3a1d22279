-- The lines of a capture (our choice), each without its line feed. Numbers of bytes count from the
-- line's first. A moment is in milliseconds.
use Rattle.std.specs.Prelude.{ℕ, List, codes, ◌≡◌, ◌<◌, ◌≤◌, ◌^◌, length, [], ◌∷◌, ◌++◌, Contains, Result, Ok, Err, Option, Some, None, Bool, ◌&&◌, nat_le, if◌then◌else◌}
use Rattle.std.specs.Str.Parse.{IsNumeral, digits_value}
use Rattle.nb_streams.specs.Hexadecimal.{DataText}
use Rattle.nb_capture.specs.declared.limits.TheConstants.{MAX_MOMENT_DIGITS, MAX_LINE}
use Rattle.nb_capture.specs.declared.line.Line.{Line}
use Rattle.nb_capture.specs.declared.line.Line.TheVariants.{Packet, Tick}
use Rattle.nb_capture.specs.declared.fault.LineFault.{LineFault}
use Rattle.nb_capture.specs.declared.fault.LineFault.TheVariants.{BadLine, NoMemory}
use Rattle.std.specs.List.{flat_map}
use Rattle.nb_streams.specs.Ascii.{backslash}
use Rattle.nb_streams.specs.Hexadecimal.{data_text, digits_of}
use Rattle.std.specs.Fmt.{decimal}
use Rattle.nb_capture.specs.declared.comment_writing.Comments.{Comments}
use Rattle.nb_capture.specs.declared.comment_writing.Comments.TheVariants.{LeftOut, Printed}

-- ---- characters

-- the line feed
abbrev pub line_feed : ℕ
line_feed = 10

-- the space, which stands between words
abbrev pub space : ℕ
space = 32

-- `#`, which begins a comment
abbrev pub number_sign : ℕ
number_sign = 35

-- ---- the words of a line

-- PortText port text: the word stands for the port of a service
pub data PortText : ℕ → List ℕ → Type 0 where
  names : PortText 137 (codes "137")
  datagrams : PortText 138 (codes "138")
  sessions : PortText 139 (codes "139")

-- MomentText moment text: the word is decimal digits, no more than a moment may have, that write the
-- moment, which has 64 bits
pub record MomentText (moment : ℕ) (text : List ℕ) : Type 0 where
  pub digits : IsNumeral 10 text
  pub most : length text ≤ MAX_MOMENT_DIGITS
  pub value : moment ≡ digits_value 10 text
  pub fits : moment < 2 ^ 64

-- ---- lines

-- HasWords line value: the words of the line, with one space between them, stand for this
pub data HasWords : List ℕ → Line → Type 0 where
  packet : (port moment : ℕ) (payload port_text moment_text payload_text : List ℕ)
      → PortText port port_text → MomentText moment moment_text → DataText payload payload_text
      → HasWords (port_text ++ space ∷ (moment_text ++ space ∷ payload_text)) (Packet port moment payload)
  tick : (now : ℕ) (text : List ℕ) → MomentText now text → HasWords (codes "tick" ++ space ∷ text) (Tick now)

-- Blank line: the line is empty, or a comment: `#` and any bytes, without a line feed
pub data Blank : List ℕ → Type 0 where
  nothing : Blank []
  comment : (text : List ℕ) → ¬ Contains text line_feed → Blank (number_sign ∷ text)

-- HasValue line value: this is what the line says, and it isn't too long
pub record HasValue (line : List ℕ) (value : Line) : Type 0 where
  pub says : HasWords line value
  pub length : length line ≤ MAX_LINE

-- the line says nothing, and isn't too long
pub record SaysNothing (line : List ℕ) : Type 0 where
  pub blank : Blank line
  pub length : length line ≤ MAX_LINE

-- the line is none of a capture's: it neither says nothing nor has a value
pub record IsMalformed (line : List ℕ) : Type 0 where
  pub not_blank : ¬ SaysNothing line
  pub no_value : (value : Line) → ¬ HasValue line value

-- ---- what is answered of a line

-- NeedsMemory value: what the line says needs memory: it is a packet whose payload isn't empty
pub data NeedsMemory : Line → Type 0 where
  for_payload : (port moment : ℕ) (payload : List ℕ) → 0 < length payload
      → NeedsMemory (Packet port moment payload)

-- ReadsBy StandFor NeedsMemory result: what is answered of words that stand for what `StandFor` says; that
-- memory ran out is answered only where they stand for something that needs memory, as `NeedsMemory` says
abbrev pub ReadsBy : {A : Type 0} → (A → Type 0) → (A → Type 0) → Result A LineFault → Type 0
ReadsBy StandFor NeedsMemory (Ok value) = StandFor value
ReadsBy {A} StandFor NeedsMemory (Err BadLine) = (value : A) → ¬ StandFor value
ReadsBy {A} StandFor NeedsMemory (Err NoMemory) = (value : A) × StandFor value × NeedsMemory value

-- Reads line result: what is answered of the line; that memory ran out only where it has a payload that isn't
-- empty
abbrev pub Reads : List ℕ → Result (Option Line) LineFault → Type 0
Reads line (Ok None) = SaysNothing line
Reads line (Ok (Some value)) = HasValue line value
Reads line (Err BadLine) = IsMalformed line
Reads line (Err NoMemory) = (value : Line) × HasValue line value × NeedsMemory value

-- ---- how the comments of a capture are printed (our choice)

-- whether a byte of a comment is printed as it stands: one from 20 to 7e, in hexadecimal
abbrev pub is_printable : ℕ → Bool
is_printable byte = nat_le 32 byte && nat_le byte 126

-- what is printed of a byte of a comment: the byte itself, or `\` and its two digits
abbrev pub byte_text : ℕ → List ℕ
byte_text byte = if is_printable byte then byte ∷ [] else backslash ∷ digits_of byte

-- what is printed of a line that is a comment or empty: its bytes, and a line feed; nothing of an empty one
abbrev pub comment_text : List ℕ → List ℕ
comment_text [] = []
comment_text (first ∷ others) = flat_map byte_text (first ∷ others) ++ line_feed ∷ []

-- blank_text comments line: the same, where comments are printed; nothing where they are left out
abbrev pub blank_text : Comments → List ℕ → List ℕ
blank_text LeftOut line = []
blank_text Printed line = comment_text line

-- ---- how lines are written (our choice)

-- packet_line port moment payload: the line of a payload, whose digits are in lower case
abbrev pub packet_line : ℕ → ℕ → List ℕ → List ℕ
packet_line port moment payload = decimal port ++ space ∷ (decimal moment ++ space ∷ data_text payload)

-- the line of what the clock shows
abbrev pub tick_line : ℕ → List ℕ
tick_line now = codes "tick" ++ space ∷ decimal now

-- the line of a comment, whose first byte is `#`: its bytes as they are printed
abbrev pub comment_line : List ℕ → List ℕ
comment_line text = flat_map byte_text text
