-- What a call that prints a text of each line makes of one, and of its writer.
use Rattle.std.specs.Prelude.{ℕ, List, Option}
use Rattle.std.specs.Io.KnownBytes.{Appends, Keeps}
use Rattle.nb_streams.specs.Counted.{CountedOf}
use Rattle.nb_streams.specs.Devices.{AppendsFront, GrowTo, ShowsWriteFault}
use Rattle.nb_capture.specs.declared.line.Line.{Line as Said}
use Rattle.nb_capture.specs.declared.fault.PrintFault.{PrintFault}
use Rattle.nb_capture.specs.declared.fault.PrintFault.TheVariants.{Write, NoMemory}

-- PrintsOn C IsText n line said old new: the text of the line, which says this, or nothing, is printed, as IsText says it; C
-- says what a device has. Beside it stands what the lines before left
pub record PrintsOn {W S : Type 0} (C : W → Option (List ℕ)) (IsText : ℕ → List ℕ → Option Said → S → S → List ℕ → Type 0) (n : ℕ) (line : List ℕ) (said : Option Said) (old new : CountedOf W × S) : Type 0 where
  pub text : List ℕ
  pub tells : IsText n line said old.1 new.1 text
  pub printed : Appends (C old.0.inner) (C new.0.inner) text
  pub grow : GrowTo old.0.counts new.0.counts

-- IsUnprinted C IsText MayLeave n line said old new fault: why the text isn't printed, or not whole
abbrev pub IsUnprinted : {W S : Type 0} → (W → Option (List ℕ)) → (ℕ → List ℕ → Option Said → S → S → List ℕ → Type 0) → (Option Said → S → S → Type 0) → ℕ → List ℕ → Option Said
    → CountedOf W × S → CountedOf W × S → PrintFault → Type 0
IsUnprinted C IsText MayLeave n line said old new Write =
    (text : List ℕ) × IsText n line said old.1 new.1 text × AppendsFront (C old.0.inner) (C new.0.inner) text × ShowsWriteFault old.0.counts new.0.counts
IsUnprinted C IsText MayLeave n line said old new NoMemory = Keeps (C old.0.inner) (C new.0.inner) × MayLeave said old.1 new.1
IsUnprinted C IsText MayLeave n line said old new _ = ⊥
