-- What the call on a line of a capture answers (our choice).
use Rattle.std.specs.Prelude.{◌≡◌, ℕ, List, [], length, Option, Some, None, Result, Ok, Err, if◌then◌else◌}
use Rattle.nb_calls.specs.Common.{Tick, LineFault, BLANK, PACKET, TICK}
use Rattle.nb_capture.specs.Capture.{HasValue, SaysNothing, IsMalformed, NeedsMemory}
use Rattle.nb_capture.specs.declared.line.Line.{Line}
use Rattle.nb_capture.specs.declared.line.Line.TheVariants.{Packet}
use Rattle.nb_calls.specs.declared.showing.NbtLine.{NbtLine}
use Rattle.nb_calls.specs.declared.statuses.TheConstants as statuses
use Rattle.nb_calls.specs.Outputs.{LentWith, Reported, fits, put_into, put_status, refused_status}
use Rattle.nb_calls.specs.Statuses.{Refusal, Memory, Fault, line_refusal}

-- what is told of a line that says this, or nothing: its numbers, and the payload that it has
abbrev pub line_parts : Option Line → Reported NbtLine
line_parts None = record { numbers = record { kind = BLANK; port = 0; moment = 0 }; bytes = [] }
line_parts (Some (Packet port moment payload)) =
    record { numbers = record { kind = PACKET; port = port; moment = moment }; bytes = payload }
line_parts (Some (Tick now)) = record { numbers = record { kind = TICK; port = 0; moment = now }; bytes = [] }

-- what is answered where this was read
abbrev pub line_answer : Result (Option Line) LineFault → Result (Reported NbtLine) Refusal
line_answer (Ok said) = Ok (line_parts said)
line_answer (Err fault) = Err (line_refusal fault)

-- SaysLine line answer: this is said of the line: nothing; the payload that came, or the clock; that it is none of a
-- capture's; or, of a payload that isn't empty, that memory ran out
pub data SaysLine (line : List ℕ) : Result (Reported NbtLine) Refusal → Type 0 where
  nothing : SaysNothing line → SaysLine line (Ok (line_parts None))
  something : (value : Line) → HasValue line value → SaysLine line (Ok (line_parts (Some value)))
  malformed : IsMalformed line → SaysLine line (Err (Fault statuses.BAD_LINE))
  lacks : (value : Line) → HasValue line value → NeedsMemory value → SaysLine line (Err Memory)

-- WritesLine answer old new status: a call with this answer leaves what was lent so, and has this status
abbrev pub WritesLine : Result (Reported NbtLine) Refusal → LentWith NbtLine → LentWith NbtLine → ℕ → Type 0
WritesLine (Ok told) old new status =
    (new.numbers ≡ (if fits told.bytes old.buffer then told.numbers else old.numbers))
    × (new.buffer ≡ put_into told.bytes old.buffer) × (new.used ≡ length told.bytes)
    × (status ≡ put_status told.bytes old.buffer)
WritesLine (Err refusal) old new status =
    (new.numbers ≡ old.numbers) × (new.buffer ≡ old.buffer) × (new.used ≡ old.used)
    × (status ≡ refused_status refusal)

-- TellsLine line old new status: something that is said of the line is answered, and what was lent is left so
abbrev pub TellsLine : List ℕ → LentWith NbtLine → LentWith NbtLine → ℕ → Type 0
TellsLine line old new status = (answer : Result (Reported NbtLine) Refusal) × SaysLine line answer × WritesLine answer old new status
