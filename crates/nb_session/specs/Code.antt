-- What filling a buffer took from a reader, and how its calls of the reader are counted.
use Rattle.std.specs.Prelude.{◌≡◌, ℕ, ◌+◌, ◌≤◌, ◌<◌, List, length, take, Option}
use Rattle.std.specs.Io.KnownBytes.{Consumes, IsAtEnd}
use Rattle.nb_streams.specs.Counted.{Counts}
use Rattle.nb_session.specs.declared.packet_reading.Fill.{Fill}
use Rattle.nb_session.specs.declared.packet_reading.Fill.TheVariants.{Whole, End, Device, TooManyInterrupts}
use Rattle.nb_session.specs.declared.limits.TheConstants.{MAX_INTERRUPTS}

-- TakesPart old new buf count: the reader gave fewer bytes than the buffer has, these at its front
abbrev pub TakesPart : Option (List ℕ) → Option (List ℕ) → List ℕ → ℕ → Type 0
TakesPart old new buf count = (count < length buf) × Consumes old new (take count buf)

-- Fills old new fill buf: what the reader has to give went from old to new, and the buffer is this
abbrev pub Fills : Option (List ℕ) → Option (List ℕ) → Fill → List ℕ → Type 0
Fills old new Whole buf = Consumes old new buf
Fills old new (End count) buf = TakesPart old new buf count × IsAtEnd new
Fills old new Device buf = (count : ℕ) × TakesPart old new buf count
Fills old new TooManyInterrupts buf = (count : ℕ) × TakesPart old new buf count

-- how many of the calls failed
abbrev pub failures : Fill → ℕ
failures Whole = 0
failures (End count) = 0
failures Device = 1
failures TooManyInterrupts = 0

-- how many of the calls gave no byte
abbrev pub ends : Fill → ℕ
ends Whole = 0
ends (End count) = 1
ends Device = 0
ends TooManyInterrupts = 0

-- IsPatient fill interrupts: so many interrupts are too many exactly where that is answered
abbrev pub IsPatient : Fill → ℕ → Type 0
IsPatient Whole interrupts = interrupts < MAX_INTERRUPTS
IsPatient (End count) interrupts = interrupts < MAX_INTERRUPTS
IsPatient Device interrupts = interrupts < MAX_INTERRUPTS
IsPatient TooManyInterrupts interrupts = interrupts ≡ MAX_INTERRUPTS

-- Shows old new fill long before after: the counts show how filling a buffer of this length went, with so
-- many interrupts before it and after
pub record Shows (old new : Counts) (fill : Fill) (long before after : ℕ) : Type 0 where
  pub failed : new.failed ≡ old.failed + failures fill
  pub empty : new.empty ≡ old.empty + ends fill
  pub interrupted : new.interrupted + before ≡ old.interrupted + after
  pub calls : new.calls + before ≤ old.calls + long + after
  pub later : before ≤ after
  pub patient : IsPatient fill after
