-- Of a line of a capture one thing is said, and what is read of it is that.
use Rattle.nb_calls.proofs.Common.{◌≡◌, ℕ, List, Option, Some, None, Result, Ok, Err, ap, refl, HasOneElse}
use Rattle.nb_capture.specs.Capture.{HasValue, SaysNothing, Reads}
use Rattle.nb_capture.specs.declared.line.Line.{Line}
use Rattle.nb_capture.specs.declared.fault.LineFault.{LineFault}
use Rattle.nb_capture.specs.declared.fault.LineFault.TheVariants.{BadLine, NoMemory}
use Rattle.nb_calls.specs.Captures.{line_parts, line_answer, SaysLine, nothing, something, malformed, lacks}

pub said_of : (line : List ℕ) (read : Result (Option Line) LineFault) → Reads line read → SaysLine line (line_answer read)
said_of line (Ok None) is = nothing is
said_of line (Ok (Some value)) is = something value is
said_of line (Err BadLine) is = malformed is
said_of line (Err NoMemory) (value, is, needs) = lacks value is needs

pub one_line : (line : List ℕ) → ((value other : Line) → HasValue line value → HasValue line other → value ≡ other)
    → ((value : Line) → HasValue line value → ¬ SaysNothing line) → HasOneElse (SaysLine line)
one_line line one alone _ _ (nothing p) (nothing q) h k = refl
one_line line one alone _ _ (nothing p) (something v q) h k = absurd (alone v q p)
one_line line one alone _ _ (nothing p) (malformed q) h k = absurd (q.not_blank p)
one_line line one alone _ _ (something v p) (nothing q) h k = absurd (alone v p q)
one_line line one alone _ _ (something v p) (something w q) h k = ap (λ (x : Line). Ok (line_parts (Some x))) (one v w p q)
one_line line one alone _ _ (something v p) (malformed q) h k = absurd (q.no_value v p)
one_line line one alone _ _ (malformed p) (nothing q) h k = absurd (p.not_blank q)
one_line line one alone _ _ (malformed p) (something v q) h k = absurd (p.no_value v q)
one_line line one alone _ _ (malformed p) (malformed q) h k = refl
one_line line one alone _ _ p (lacks v q n) h k = absurd (k refl)
one_line line one alone _ _ (lacks v p n) q h k = absurd (h refl)
