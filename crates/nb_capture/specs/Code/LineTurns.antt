-- What becomes of one line that is given to a taker (our choice).
use Rattle.std.specs.Prelude.{◌≡◌, ℕ, List, Option, Ok}
use Rattle.nb_streams.specs.declared.hexadecimal.DigitsFault.{DigitsFault}
use Rattle.nb_streams.specs.declared.hexadecimal.DigitsFault.TheVariants as digits
use Rattle.nb_capture.specs.declared.line.Line as capture
use Rattle.nb_capture.specs.declared.fault.LineFault.{LineFault}
use Rattle.nb_capture.specs.declared.fault.LineFault.TheVariants as lines
use Rattle.nb_capture.specs.declared.fault.CaptureFault.{CaptureFault}
use Rattle.nb_capture.specs.declared.fault.CaptureFault.TheVariants.{Line, NoMemory}
use Rattle.nb_capture.specs.Capture.{IsMalformed, Reads}

-- what is answered of a line whose payload's word is refused
abbrev pub line_fault_of : DigitsFault → LineFault
line_fault_of digits.BadDigits = lines.BadLine
line_fault_of digits.NoMemory = lines.NoMemory

-- LineFails Fails Gives n line old new fault: line n isn't taken, for this fault, which leaves new of old
pub data LineFails {S F : Type 0} (Fails : ℕ → List ℕ → Option capture.Line → S → S → F → Type 0) (Gives : CaptureFault → F → Type 0)
    (n : ℕ) (line : List ℕ) (old new : S) (fault : F) : Type 0 where
  malformed : IsMalformed line → new ≡ old → Gives (Line n) fault → LineFails Fails Gives n line old new fault
  no_memory : new ≡ old → Gives NoMemory fault → LineFails Fails Gives n line old new fault
  not_taken : (said : Option capture.Line) → Reads line (Ok said) → Fails n line said old new fault → LineFails Fails Gives n line old new fault
