-- What is printed of the lines of a capture (our choice).
use Rattle.std.specs.Prelude.{◌≡◌, ℕ, List, Option, Result, Ok, Err}
use Rattle.std.specs.Io.KnownBytes.{Consumes}
use Rattle.nb_streams.specs.Counted.{Counts}
use Rattle.nb_streams.specs.Devices.{ShowsUnread}
use Rattle.nb_capture.specs.declared.options.CaptureOptions.{CaptureOptions}
use Rattle.nb_capture.specs.declared.line.Line as capture
use Rattle.nb_capture.specs.declared.fault.PrintFault.{PrintFault}
use Rattle.nb_capture.specs.LinePrinting.{Shows}
use Rattle.nbt_command.specs.declared.fault.Fault.{Fault}
use Rattle.nbt_command.specs.declared.fault.Fault.TheVariants.{Read}
use Rattle.nbt_command.specs.Reported.{of_printing}

-- EndsWith IsAnswer result: where lines are printed with such an answer, a command ends so
abbrev pub EndsWith : (Result ℕ PrintFault → Type 0) → Result Unit Fault → Type 0
EndsWith IsAnswer (Ok _) = (n : ℕ) × IsAnswer (Ok n)
EndsWith IsAnswer (Err fault) = (why : PrintFault) × (fault ≡ of_printing why) × IsAnswer (Err why)

-- what stands where memory ran out isn't used again
abbrev pub AnyLeft : {S : Type 0} → Option capture.Line → S → S → Type 0
AnyLeft said old new = Unit {0}

-- ShowsCapture AreAsked IsText MayLeave first old_in new_in old new before after result: what is asked, the bytes that were read,
-- and what was printed of their lines
pub record ShowsCapture {S : Type 0} (AreAsked : CaptureOptions → Type 0) (IsText : CaptureOptions → ℕ → List ℕ → S → S → List ℕ → Type 0)
    (MayLeave : Option capture.Line → S → S → Type 0) (first : S) (old_in new_in : Option (List ℕ)) (old new : Counts) (before after : Option (List ℕ))
    (result : Result Unit Fault) : Type 0 where
  pub options : CaptureOptions
  pub asked : AreAsked options
  pub bytes : List ℕ
  pub read : Consumes old_in new_in bytes
  pub cut : result ≡ Err Read → ShowsUnread options.most bytes old new
  pub last : S
  pub shows : EndsWith (Shows (IsText options) MayLeave options.most bytes new_in first last before after) result
