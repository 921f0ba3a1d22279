-- What each command does, by what clap's matches hold for its options and arguments (our choice).
use Rattle.std.specs.Prelude.{◌≡◌, ◌≢◌, ℕ, false, true, List, [], codes, Some, Option, Result, Ok, Err, IfErr, OnOk}
use Rattle.std.specs.Io.KnownBytes.{Appends, Keeps}
use Rattle.clap.specs.Words.{found_of, first_value}
use Rattle.clap.specs.declared.parser.matches.ArgMatches.{ArgMatches}
use Rattle.nb_streams.specs.Devices.{AppendsFront}
use Rattle.nb_capture.specs.declared.line.Line.{Line}
use Rattle.nb_telling.specs.Telling.{Field}
use Rattle.nb_text.specs.Shown.{Shown}
use Rattle.nb_text.specs.TellsFront.{ShowsFront}
use Rattle.nbt_command.specs.declared.fault.Fault.{Fault}
use Rattle.nbt_command.specs.declared.fault.Fault.TheVariants.{Arguments, Write}
use Rattle.nbt_command.specs.Options.{AreOptions, IsGiven}
use Rattle.nbt_command.specs.Streams.{Streams, WritesShow}
use Rattle.nbt_command.specs.Objects.{ObjectSaid}
use Rattle.nb_capture.specs.LinePrinting.{TellsLine}
use Rattle.nbt_command.specs.Lines.{AnyLeft, ShowsCapture}
use Rattle.nbt_packets.specs.Building.{Builds}
use Rattle.nbt_packets.specs.Names.{IsNameFault, IsNameOf, IsSpellingFault, IsSpellingOf, PrintsName, PrintsSpelling, Leaves}
use Rattle.nbt_packets.specs.Showing.{IsBrief, PayloadText, ShowsLine}
use Rattle.nbt_packets.specs.ShowingFields.{BriefFields, FrontFields, PacketFields}

-- ---- `nbt name [--bytes] VALUE` by what clap's matches of the words hold

-- the matches hold this VALUE
abbrev pub IsValue : ArgMatches → List ℕ → Type 0
IsValue matches value = first_value (found_of matches) (codes "VALUE") ≡ Some value

-- OutcomeOf Prints IsFault IsText value result old new: the value's text is printed as a line, or
-- refused for a fault of the value's
abbrev pub OutcomeOf : (List ℕ → Option (List ℕ) → Option (List ℕ) → Type 0) → (List ℕ → Fault → Type 0)
    → (List ℕ → List ℕ → Type 0) → List ℕ → Result Unit Fault → Option (List ℕ) → Option (List ℕ) → Type 0
OutcomeOf Prints IsFault IsText value (Ok _) old new = Prints value old new
OutcomeOf Prints IsFault IsText value (Err fault) old new = IsFault value fault × Leaves (IsText value) old new fault

-- ---- `nbt show`

-- ShowsAs IsText AreFields first matches s result: the lines of the input were shown, payloads with these texts, or as objects
-- with these fields, where this stands before the first
pub record ShowsAs {S : Type 0} (IsText : PayloadText) (AreFields : Line → S → S → List Field → Type 0) (first : S) (matches : ArgMatches) (s : Streams) (result : Result Unit Fault) : Type 0 where
  pub text : IsGiven matches (codes "json") false → ShowsCapture (AreOptions matches) (λ options. ShowsLine IsText options.comments) AnyLeft tt s.old_in s.new_in s.reads s.reads_after s.old_out s.new_out result
  pub json : IsGiven matches (codes "json") true → ShowsCapture (AreOptions matches) (λ options. TellsLine (ObjectSaid AreFields options.comments)) AnyLeft ([], first) s.old_in s.new_in s.reads s.reads_after s.old_out s.new_out result
  pub why : WritesShow s result

-- options that do not go together are refused, and nothing is read or printed
abbrev pub IsUnshown : Streams → Result Unit Fault → Type 0
IsUnshown s result = (result ≡ Err Arguments) × Keeps s.old_in s.new_in × Keeps s.old_out s.new_out

-- `nbt show`
pub record ShowCommand (matches : ArgMatches) (s : Streams) (result : Result Unit Fault) : Type 0 where
  pub whole : IsGiven matches (codes "brief") false → IsGiven matches (codes "partial") false → ShowsAs Shown PacketFields tt matches s result
  pub brief : IsGiven matches (codes "brief") true → IsGiven matches (codes "partial") false → ShowsAs IsBrief BriefFields tt matches s result
  pub fronts : IsGiven matches (codes "brief") false → IsGiven matches (codes "partial") true → ShowsAs ShowsFront FrontFields tt matches s result
  pub both : IsGiven matches (codes "brief") true → IsGiven matches (codes "partial") true → IsUnshown s result
  pub why : WritesShow s result

-- ---- the others

-- `nbt name`
pub record NameCommand (matches : ArgMatches) (s : Streams) (result : Result Unit Fault) : Type 0 where
  pub spelling : (value : List ℕ) → IsValue matches value → IsGiven matches (codes "bytes") false
      → OutcomeOf PrintsSpelling IsSpellingFault IsSpellingOf value result s.old_out s.new_out
  pub name : (value : List ℕ) → IsValue matches value → IsGiven matches (codes "bytes") true
      → OutcomeOf PrintsName IsNameFault IsNameOf value result s.old_out s.new_out
  pub why : WritesShow s result

-- `nbt build`
pub record BuildCommand (matches : ArgMatches) (s : Streams) (result : Result Unit Fault) : Type 0 where
  pub printed : OnOk result (Builds matches (Appends s.old_out s.new_out))
  pub write : IfErr result (λ fault. fault ≡ Write → Builds matches (AppendsFront s.old_out s.new_out))
  pub err : IfErr result (λ fault. fault ≢ Write → Keeps s.old_out s.new_out)
  pub why : WritesShow s result
