-- What is printed of the lines of a capture, a text of each (our choice). Lines are numbered from 1.
use Rattle.std.specs.Prelude.{◌≡◌, ◌≤◌, ◌+◌, ◌++◌, ◌∷◌, ℕ, List, [], length, Option, Result, Ok, Err}
use Rattle.std.specs.Io.KnownBytes.{Appends}
use Rattle.nb_streams.specs.Lines.{CutInto, with_rest}
use Rattle.nb_capture.specs.declared.limits.TheConstants.{MAX_LINE}
use Rattle.nb_capture.specs.declared.line.Line as capture
use Rattle.nb_capture.specs.declared.fault.CaptureFault.{CaptureFault}
use Rattle.nb_capture.specs.declared.fault.CaptureFault.TheVariants as reading
use Rattle.nb_capture.specs.declared.fault.PrintFault.{PrintFault}
use Rattle.nb_capture.specs.declared.fault.PrintFault.TheVariants.{Line, Read, Write, NoMemory}
use Rattle.nb_capture.specs.Capture.{Reads}
use Rattle.nb_capture.specs.CaptureLines.{AreLines, ComesMalformed, IsWhole, looked_at}

-- what no longer reading a capture is to one who prints it
abbrev pub of_capture : CaptureFault → PrintFault
of_capture (reading.Line n) = Line n
of_capture reading.Read = Read
of_capture reading.NoMemory = NoMemory

-- ---- texts

-- TellsLine IsText n l s t text: the text of l, which is line n of a capture, where s is what the lines before it left, and t
-- what it leaves; IsText n l said s t text says which text that is where the line says this, or nothing
pub record TellsLine {S : Type 0} (IsText : ℕ → List ℕ → Option capture.Line → S → S → List ℕ → Type 0) (n : ℕ) (l : List ℕ) (s t : S) (text : List ℕ) : Type 0 where
  pub said : Option capture.Line
  pub reads : Reads l (Ok said)
  pub tells : IsText n l said s t text

-- ShowsLines IsText n ls s t text: texts of these lines, the first of which is line n, one after the other, from s on; they leave
-- t. IsText n l s t text says which text line n has, where it is l
pub data ShowsLines {S : Type 0} (IsText : ℕ → List ℕ → S → S → List ℕ → Type 0) : ℕ → List (List ℕ) → S → S → List ℕ → Type 0 where
  none : (n : ℕ) (s : S) → ShowsLines IsText n [] s s []
  more : (n : ℕ) (l text others : List ℕ) (ls : List (List ℕ)) (s t u : S) → IsText n l s t text → ShowsLines IsText (n + 1) ls t u others
      → ShowsLines IsText n (l ∷ ls) s u (text ++ others)

-- ---- what is printed

-- Prints IsText ls first last before after: exactly the text of these lines of the capture was printed, from `first` on, and they
-- leave `last`
pub record Prints {S : Type 0} (IsText : ℕ → List ℕ → S → S → List ℕ → Type 0) (ls : List (List ℕ)) (first last : S) (before after : Option (List ℕ)) : Type 0 where
  pub text : List ℕ
  pub shows : ShowsLines IsText 1 ls first last text
  pub printed : Appends before after text

-- PrintsPart IsText most bytes left first last before after: of an input of so many bytes at most, the text of some first lines
-- was printed, and then a front of that of the next one, which leaves `last`
pub record PrintsPart {S : Type 0} (IsText : ℕ → List ℕ → S → S → List ℕ → Type 0) (most : ℕ) (bytes : List ℕ) (left : Option (List ℕ)) (first last : S)
    (before after : Option (List ℕ)) : Type 0 where
  pub ready : List (List ℕ)
  pub next : List ℕ
  pub more_lines : List (List ℕ)
  pub are_lines : AreLines most bytes left (ready ++ next ∷ more_lines)
  pub text : List ℕ
  pub between : S
  pub shows : ShowsLines IsText 1 ready first between text
  pub front : List ℕ
  pub later : List ℕ
  pub shows_next : IsText (length ready + 1) next between last (front ++ later)
  pub printed : Appends before after (text ++ front)

-- LeavesOff MayLeave ls s t: none of these lines has a text, and they leave t: what stood before them, or what the first may leave
-- in which memory ran out
pub data LeavesOff {S : Type 0} (MayLeave : Option capture.Line → S → S → Type 0) : List (List ℕ) → S → S → Type 0 where
  before_all : (ls : List (List ℕ)) (s : S) → LeavesOff MayLeave ls s s
  in_first : (l : List ℕ) (ls : List (List ℕ)) (said : Option capture.Line) (s t : S) → Reads l (Ok said) → MayLeave said s t
      → LeavesOff MayLeave (l ∷ ls) s t

-- PrintsSome IsText MayLeave most bytes left first last before after: exactly the text of some first lines was printed, where
-- memory ran out
pub record PrintsSome {S : Type 0} (IsText : ℕ → List ℕ → S → S → List ℕ → Type 0) (MayLeave : Option capture.Line → S → S → Type 0) (most : ℕ) (bytes : List ℕ)
    (left : Option (List ℕ)) (first last : S) (before after : Option (List ℕ)) : Type 0 where
  pub ready : List (List ℕ)
  pub others : List (List ℕ)
  pub are_lines : AreLines most bytes left (ready ++ others)
  pub between : S
  pub prints : Prints IsText ready first between before after
  pub leaves : LeavesOff MayLeave others between last

-- Shows IsText MayLeave most bytes left first last before after result: what is answered where these bytes came from an input of so
-- many bytes at most, with those left, and what was printed then, from `first` on, which leaves `last`: at each fault but that of
-- a write the text of whole lines
abbrev pub Shows : {S : Type 0} → (ℕ → List ℕ → S → S → List ℕ → Type 0) → (Option capture.Line → S → S → Type 0) → ℕ → List ℕ → Option (List ℕ) → S → S
    → Option (List ℕ) → Option (List ℕ) → Result ℕ PrintFault → Type 0
Shows IsText MayLeave most bytes left first last before after (Ok n) =
    (lines : List (List ℕ)) × (rest : List ℕ) × CutInto bytes lines rest × IsWhole most bytes left
    × (n ≡ length (with_rest lines rest)) × Prints IsText (with_rest lines rest) first last before after
Shows IsText MayLeave most bytes left first last before after (Err (Line n)) =
    (lines : List (List ℕ)) × ComesMalformed most bytes left lines × (n ≡ length lines + 1) × Prints IsText lines first last before after
Shows IsText MayLeave most bytes left first last before after (Err Read) =
    (lines : List (List ℕ)) × (rest : List ℕ) × CutInto (looked_at most bytes) lines rest × (length rest ≤ MAX_LINE)
    × Prints IsText lines first last before after
Shows IsText MayLeave most bytes left first last before after (Err Write) = PrintsPart IsText most bytes left first last before after
Shows IsText MayLeave most bytes left first last before after (Err NoMemory) =
    PrintsSome IsText MayLeave most bytes left first last before after
