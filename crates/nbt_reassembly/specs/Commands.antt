-- What each command does, by what clap's matches hold for its options and arguments (our choice).
use Rattle.std.specs.Prelude.{◌≡◌, ◌≢◌, ◌⊎◌, ℕ, Bool, false, true, List, [], codes, Option, Result, IfOk, IfErr, OnOk}
use Rattle.std.specs.Io.KnownBytes.{Consumes, Keeps}
use Rattle.std.specs.Result.{IsErrAnd}
use Rattle.clap.specs.Words.{Text}
use Rattle.clap.specs.declared.parser.matches.ArgMatches.{ArgMatches}
use Rattle.nb_streams.specs.declared.limits.TheConstants.{MAX_INPUT}
use Rattle.nb_member.specs.Listing.{listing}
use Rattle.nb_member.specs.ListingFields.{listed_objects}
use Rattle.nb_member.specs.Member.{MemberValue}
use Rattle.nb_member.specs.Replaying as member_replays
use Rattle.nb_member.specs.ReportFields.{MayLeave, OutcomeFields, ReportSaid}
use Rattle.nb_table.specs.Contents.{Contents}
use Rattle.nbt_command.specs.declared.fault.Fault.{Fault}
use Rattle.nbt_command.specs.declared.fault.Fault.TheVariants.{Read, Write}
use Rattle.nbt_command.specs.declared.fault.Status.{Status}
use Rattle.nbt_command.specs.declared.fault.Status.TheVariants.{BadUsage}
use Rattle.nbt_command.specs.Input.{WasCut}
use Rattle.nb_capture.specs.declared.comment_writing.Comments.{Comments}
use Rattle.nb_capture.specs.declared.line.Line.{Line}
use Rattle.nb_capture.specs.declared.options.CaptureOptions.{CaptureOptions}
use Rattle.nb_capture.specs.LinePrinting.{TellsLine}
use Rattle.nbt_command.specs.Lines.{AnyLeft, EndsWith, ShowsCapture}
use Rattle.nbt_command.specs.Objects.{ObjectSaid}
use Rattle.nbt_command.specs.Options.{AreOptions, IsGiven, IsInputLimit}
use Rattle.nbt_command.specs.Printing.{PrintsFront, PrintsLine}
use Rattle.nbt_command.specs.Streams.{Streams, WritesShow}
use Rattle.nbt_reassembly.specs.declared.capacity.Capacity.{Capacity}
use Rattle.nbt_reassembly.specs.Capacity.{IsCapacity}
use Rattle.nbt_reassembly.specs.Replaying.{AreTexts, Begins, IsUnbegun}
use Rattle.nbt_reassembly.specs.SaveFaults.{SaveFails}
use Rattle.nbt_reassembly.specs.Saving.{saved_line, SavesCapture}
use Rattle.nbt_reassembly.specs.Tables.{CompareFails, ComparesTables, FailsOn, PrintsJoin, Tells, TellsFront}

-- why a replay doesn't begin: nothing is read or printed then
abbrev pub IsUnstarted : (Capacity → Type 0) → (List Text → Type 0) → Streams → Result Unit Fault → Type 0
IsUnstarted IsGiven AreWords s result =
    IsErrAnd result (IsUnbegun IsGiven AreWords) × Keeps s.old_in s.new_in × Keeps s.old_out s.new_out

-- Replays matches IsText MayLeave begun s result: the texts of what a new member made of the lines of the input were printed, where
-- begun says what stands before the first line
pub record Replays {S : Type 0} (matches : ArgMatches) (IsText : Comments → ℕ → List ℕ → Option Line → S → S → List ℕ → Type 0) (MayLeave : Option Line → S → S → Type 0) (begun : MemberValue → S)
    (s : Streams) (result : Result Unit Fault) : Type 0 where
  pub member : MemberValue
  pub begins : Begins (IsCapacity matches) (AreTexts matches) member
  pub tells : ShowsCapture (AreOptions matches) (λ options. TellsLine (IsText options.comments)) MayLeave (begun member) s.old_in s.new_in s.reads s.reads_after s.old_out s.new_out result

-- ReplaysEvents matches s result: a new member, which stands for no events, replayed what was read of the input, and the report of
-- the events that its lines say was printed
pub record ReplaysEvents (matches : ArgMatches) (s : Streams) (result : Result Unit Fault) : Type 0 where
  pub member : MemberValue
  pub begins : Begins (IsCapacity matches) (AreTexts matches) member
  pub options : CaptureOptions
  pub asked : AreOptions matches options
  pub bytes : List ℕ
  pub read : Consumes s.old_in s.new_in bytes
  pub new : MemberValue
  pub replays : EndsWith (member_replays.Replays options.comments options.most member [] [] bytes s.new_in new s.old_out s.new_out) result

-- `nbt replay`: the report, of the lines and of the events that they say, or its objects
pub record ReplayCommand (matches : ArgMatches) (s : Streams) (result : Result Unit Fault) : Type 0 where
  pub text : IsGiven matches (codes "json") false → Replays matches ReportSaid MayLeave (λ m. m) s result ⊎ IsUnstarted (IsCapacity matches) (AreTexts matches) s result
  pub events : IsGiven matches (codes "json") false → ReplaysEvents matches s result ⊎ IsUnstarted (IsCapacity matches) (AreTexts matches) s result
  pub json : IsGiven matches (codes "json") true → Replays matches (ObjectSaid OutcomeFields) AnyLeft (λ m. ([], m)) s result ⊎ IsUnstarted (IsCapacity matches) (AreTexts matches) s result
  pub cut : IfErr result (λ fault. fault ≡ Read → (most : ℕ) × IsInputLimit matches most × WasCut most s.old_in s.new_in s.reads s.reads_after)
  pub why : WritesShow s result

-- `nbt save`
pub record SaveCommand {A : Type 0} (matches : ArgMatches) (s : Streams) (result : Result A Fault) : Type 0 where
  pub printed : OnOk result (SavesCapture (IsCapacity matches) (IsInputLimit matches) (PrintsLine s.old_out s.new_out) s.old_in s.new_in)
  pub err : IfErr result (λ fault. fault ≢ Write → Keeps s.old_out s.new_out)
  pub write : IfErr result (λ fault. fault ≡ Write → SavesCapture (IsCapacity matches) (IsInputLimit matches) (PrintsFront s.old_out s.new_out) s.old_in s.new_in)
  pub fault : IfErr result (SaveFails (IsCapacity matches) (IsInputLimit matches) s.old_in s.new_in s.reads s.reads_after)
  pub why : WritesShow s result

-- PrintsTables matches text_of s result: a text of the join of the input's tables is printed
pub record PrintsTables (matches : ArgMatches) (text_of : Contents → List ℕ) (s : Streams) (result : Result Unit Fault) : Type 0 where
  pub prints : PrintsJoin (IsCapacity matches) text_of s.old_in s.new_in s.old_out s.new_out result
  pub cut : IfErr result (λ fault. fault ≡ Read → WasCut MAX_INPUT s.old_in s.new_in s.reads s.reads_after)
  pub why : WritesShow s result

-- `nbt merge`
abbrev pub MergeCommand : ArgMatches → Streams → Result Unit Fault → Type 0
MergeCommand matches s result = PrintsTables matches saved_line s result

-- listed_as json: what is printed of a table: its objects, or its lines
abbrev pub listed_as : Bool → Contents → List ℕ
listed_as true = listed_objects
listed_as false = listing

-- `nbt list`
pub record ListCommand (matches : ArgMatches) (s : Streams) (result : Result Unit Fault) : Type 0 where
  pub text : IsGiven matches (codes "json") false → PrintsTables matches listing s result
  pub json : IsGiven matches (codes "json") true → PrintsTables matches listed_objects s result
  pub why : WritesShow s result

-- `nbt agree`
pub record AgreeCommand (matches : ArgMatches) (s : Streams) (result : Result Status Fault) : Type 0 where
  pub printed : (list : Bool) → IsGiven matches (codes "list") list → IfOk result (λ status. ComparesTables (λ t u. Tells list t u status s.old_out s.new_out) s.old_in s.new_in)
  pub status : IfOk result (λ status. status ≢ BadUsage)
  pub err : IfErr result (λ fault. fault ≢ Write → Keeps s.old_out s.new_out)
  pub write : (list : Bool) → IsGiven matches (codes "list") list → IfErr result (λ fault. fault ≡ Write → ComparesTables (λ t u. TellsFront list t u s.old_out s.new_out) s.old_in s.new_in)
  pub fault : IfErr result (FailsOn CompareFails s.old_in s.new_in)
  pub cut : IfErr result (λ fault. fault ≡ Read → WasCut MAX_INPUT s.old_in s.new_in s.reads s.reads_after)
  pub why : WritesShow s result
