-- What is made of the lines of a capture, one after another (our choice). Lines are numbered from 1.
use Rattle.std.specs.Prelude.{◌≡◌, ◌≤◌, ◌+◌, ◌++◌, ◌∷◌, ℕ, List, [], length, Option, Result, Ok, Err}
use Rattle.nb_streams.specs.Counted.{Counts}
use Rattle.nb_streams.specs.Devices.{ShowsUnread}
use Rattle.nb_streams.specs.Lines.{CutInto, with_rest}
use Rattle.nb_capture.specs.declared.limits.TheConstants.{MAX_LINE}
use Rattle.nb_capture.specs.declared.line.Line as capture
use Rattle.nb_capture.specs.declared.fault.CaptureFault.{CaptureFault}
use Rattle.nb_capture.specs.declared.fault.CaptureFault.TheVariants.{Line, Read, NoMemory}
use Rattle.nb_capture.specs.Capture.{Reads}
use Rattle.nb_capture.specs.CaptureLines.{AreLines, ComesMalformed, IsWhole, looked_at}

-- TakesLine Takes n line old new: line n makes old new; Takes n line said old new says which lines that say this, or
-- nothing, make old new
pub record TakesLine {S : Type 0} (Takes : ℕ → List ℕ → Option capture.Line → S → S → Type 0) (n : ℕ) (line : List ℕ) (old new : S) : Type 0 where
  pub said : Option capture.Line
  pub reads : Reads line (Ok said)
  pub takes : Takes n line said old new

-- TakesEach Takes n lines old new: the lines, of which the first is line n, make old new, one after another
pub data TakesEach {S : Type 0} (Takes : ℕ → List ℕ → Option capture.Line → S → S → Type 0) : ℕ → List (List ℕ) → S → S → Type 0 where
  none : (n : ℕ) (s : S) → TakesEach Takes n [] s s
  more : (n : ℕ) (line : List ℕ) (lines : List (List ℕ)) (old between new : S) → TakesLine Takes n line old between
      → TakesEach Takes (n + 1) lines between new → TakesEach Takes n (line ∷ lines) old new

-- StopsAt Takes Fails most bytes left old new fault: of an input of so many bytes at most, the first lines made old
-- something, and the next one wasn't taken, for this fault, which left new; Fails n line said between new fault says so
pub record StopsAt {S F : Type 0} (Takes : ℕ → List ℕ → Option capture.Line → S → S → Type 0) (Fails : ℕ → List ℕ → Option capture.Line → S → S → F → Type 0)
    (most : ℕ) (bytes : List ℕ) (left : Option (List ℕ)) (old new : S) (fault : F) : Type 0 where
  pub done : List (List ℕ)
  pub line : List ℕ
  pub more_lines : List (List ℕ)
  pub are_lines : AreLines most bytes left (done ++ line ∷ more_lines)
  pub between : S
  pub taken : TakesEach Takes 1 done old between
  pub said : Option capture.Line
  pub reads : Reads line (Ok said)
  pub fails : Fails (length done + 1) line said between new fault

-- EndsEarly Takes Fails Gives most bytes left counts later old new fault: why not all lines were taken of an input of so many
-- bytes at most, of which these came, with those left, by calls that changed the reader's counts so; the lines before the
-- fault made something of old. Gives why fault says that the fault stands for one of a replay's
pub data EndsEarly {S F : Type 0} (Takes : ℕ → List ℕ → Option capture.Line → S → S → Type 0) (Fails : ℕ → List ℕ → Option capture.Line → S → S → F → Type 0)
    (Gives : CaptureFault → F → Type 0) (most : ℕ) (bytes : List ℕ) (left : Option (List ℕ)) (counts later : Counts) (old new : S) (fault : F) : Type 0 where
  malformed : (lines : List (List ℕ)) → ComesMalformed most bytes left lines → TakesEach Takes 1 lines old new
      → Gives (Line (length lines + 1)) fault → EndsEarly Takes Fails Gives most bytes left counts later old new fault
  unread : (lines : List (List ℕ)) (rest : List ℕ) → CutInto (looked_at most bytes) lines rest → length rest ≤ MAX_LINE
      → TakesEach Takes 1 lines old new → ShowsUnread most bytes counts later → Gives Read fault
      → EndsEarly Takes Fails Gives most bytes left counts later old new fault
  no_memory : (lines more_lines : List (List ℕ)) → AreLines most bytes left (lines ++ more_lines) → TakesEach Takes 1 lines old new
      → Gives NoMemory fault → EndsEarly Takes Fails Gives most bytes left counts later old new fault
  not_taken : StopsAt Takes Fails most bytes left old new fault → EndsEarly Takes Fails Gives most bytes left counts later old new fault

-- TakesLines Takes Fails Gives most bytes left counts later old new result: what is answered there, and what the lines made of
-- old: how many there are, or the fault that was met first
abbrev pub TakesLines : {S F : Type 0} → (ℕ → List ℕ → Option capture.Line → S → S → Type 0) → (ℕ → List ℕ → Option capture.Line → S → S → F → Type 0)
    → (CaptureFault → F → Type 0) → ℕ → List ℕ → Option (List ℕ) → Counts → Counts → S → S → Result ℕ F → Type 0
TakesLines Takes Fails Gives most bytes left counts later old new (Ok n) =
    (lines : List (List ℕ)) × (rest : List ℕ) × CutInto bytes lines rest × IsWhole most bytes left
    × (n ≡ length (with_rest lines rest)) × TakesEach Takes 1 (with_rest lines rest) old new
TakesLines Takes Fails Gives most bytes left counts later old new (Err fault) = EndsEarly Takes Fails Gives most bytes left counts later old new fault
