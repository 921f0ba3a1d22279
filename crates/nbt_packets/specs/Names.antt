-- What `nbt name` prints, and why it refuses its word (our choice).
use Rattle.std.specs.Prelude.{◌≡◌, ◌≢◌, ◌<◌, ℕ, List, length, Option}
use Rattle.std.specs.Io.KnownBytes.{Keeps}
use Rattle.nb_names.specs.declared.reading.Pointers.TheVariants.{Refused}
use Rattle.nb_names.specs.DomainName.{spelling}
use Rattle.nb_streams.specs.Hexadecimal.{HexText, digits_text}
use Rattle.nb_names.specs.Name.{NetbiosName, IsName, labels_of_name}
use Rattle.nb_names.specs.NameText.{IsText, IsFaultOf, written}
use Rattle.nb_names.specs.Labels.{NameAt}
use Rattle.nb_names.specs.NameFaults.{NetbiosFaultAt}
use Rattle.nbt_command.specs.declared.fault.Fault.{Fault}
use Rattle.nbt_command.specs.declared.fault.Fault.TheVariants.{Text, Name, BadHex, TrailingBytes, Write, Memory}
use Rattle.nbt_command.specs.Printing.{PrintsFront, PrintsLine}

-- IsSpellingOf text digits: the digits are the spelling, in hexadecimal, of the name that the text
-- stands for
pub record IsSpellingOf (text digits : List ℕ) : Type 0 where
  pub name : NetbiosName
  pub stands : IsText name text
  pub exact : digits ≡ digits_text (spelling (labels_of_name name))

-- why no spelling is printed for a text
abbrev pub IsSpellingFault : List ℕ → Fault → Type 0
IsSpellingFault text (Text fault) = IsFaultOf text fault
IsSpellingFault text Write = Unit {0}
IsSpellingFault text Memory = Unit {0}
IsSpellingFault text _ = ⊥

-- the digits are of no bytes
abbrev pub IsNoHex : List ℕ → Type 0
IsNoHex digits = (bytes : List ℕ) → ¬ HexText bytes digits

-- IsNameOf digits text: the text is the written form of the name whose spelling the digits are, in
-- hexadecimal, and nothing else
pub record IsNameOf (digits text : List ℕ) : Type 0 where
  pub bytes : List ℕ
  pub name : NetbiosName
  pub decoded : HexText bytes digits
  pub is : IsName name
  pub stands : NameAt bytes Refused 0 (labels_of_name name) (length bytes)
  pub exact : text ≡ written name

-- IsTrailing bytes at: a name's labels stand at the front of the bytes, and other bytes from this
-- offset on
abbrev pub IsTrailing : List ℕ → ℕ → Type 0
IsTrailing bytes at = (name : NetbiosName) × IsName name × NameAt bytes Refused 0 (labels_of_name name) at × (at < length bytes)

-- why no name is printed for digits
abbrev pub IsNameFault : List ℕ → Fault → Type 0
IsNameFault digits BadHex = IsNoHex digits
IsNameFault digits (Name fault) = (bytes : List ℕ) × HexText bytes digits × NetbiosFaultAt bytes Refused 0 fault
IsNameFault digits (TrailingBytes at) = (bytes : List ℕ) × HexText bytes digits × IsTrailing bytes at
IsNameFault digits Write = Unit {0}
IsNameFault digits Memory = Unit {0}
IsNameFault digits _ = ⊥

-- Leaves IsText fault old new: a fault in writing leaves a front of the text's line after the bytes
-- that the output held, and any other leaves the output as it was
abbrev pub Leaves : (List ℕ → Type 0) → Option (List ℕ) → Option (List ℕ) → Fault → Type 0
Leaves IsText old new Write = (text : List ℕ) × IsText text × PrintsFront old new text
Leaves IsText old new _ = Keeps old new

-- the fault isn't one of writing
abbrev pub IsNoWrite : Fault → Type 0
IsNoWrite fault = fault ≢ Write

-- PrintsSpelling text old new: the spelling of the text's name is printed as a line
abbrev pub PrintsSpelling : List ℕ → Option (List ℕ) → Option (List ℕ) → Type 0
PrintsSpelling text old new = (digits : List ℕ) × IsSpellingOf text digits × PrintsLine old new digits

-- PrintsName digits old new: the text of the name whose spelling the digits are is printed as a line
abbrev pub PrintsName : List ℕ → Option (List ℕ) → Option (List ℕ) → Type 0
PrintsName digits old new = (text : List ℕ) × IsNameOf digits text × PrintsLine old new text
