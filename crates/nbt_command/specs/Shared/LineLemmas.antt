-- What is printed of the lines of a capture, by the options that ask for it.
use Rattle.std.proofs.Common.{◌≡◌, ℕ, List, Option, Result, Err, subst}
use Rattle.std.specs.Io.KnownBytes.{Consumes}
use Rattle.nb_streams.specs.Counted.{Counts}
use Rattle.nb_streams.specs.Devices.{ShowsUnread}
use Rattle.nb_capture.specs.declared.options.CaptureOptions.{CaptureOptions}
use Rattle.nb_capture.specs.declared.line.Line as capture
use Rattle.nb_capture.specs.LinePrinting.{Shows}
use Rattle.nbt_command.specs.declared.fault.Fault.{Fault}
use Rattle.nbt_command.specs.declared.fault.Fault.TheVariants.{Read}
use Rattle.nbt_command.specs.Lines.{EndsWith, ShowsCapture}

pub shows_capture : {S : Type 0} (AreAsked : CaptureOptions → Type 0) (IsText : CaptureOptions → ℕ → List ℕ → S → S → List ℕ → Type 0) (MayLeave : Option capture.Line → S → S → Type 0)
    (first begun : S) (options : CaptureOptions) (old_in new_in : Option (List ℕ)) (reads after : Counts) (old new : Option (List ℕ)) (result : Result Unit Fault) → begun ≡ first → AreAsked options
    → (bytes : List ℕ) × Consumes old_in new_in bytes × ((result ≡ Err Read → ShowsUnread options.most bytes reads after)
    × ((last : S) × EndsWith (Shows (IsText options) MayLeave options.most bytes new_in begun last old new) result))
    → ShowsCapture AreAsked IsText MayLeave first old_in new_in reads after old new result
shows_capture {S} AreAsked IsText MayLeave first begun options old_in new_in reads after old new result begins asked s =
    record {
      options = options;
      asked = asked;
      bytes = s.0;
      read = s.1;
      cut = s.2.0;
      last = s.2.1.0;
      shows = subst (λ (at : S). EndsWith (Shows (IsText options) MayLeave options.most s.0 new_in at s.2.1.0 old new) result) begins s.2.1.1;
    }
