-- What `nbt save` makes of a capture: a member without names takes its payloads of port 138 and sets
-- the clock at its ticks (our choice).
use Rattle.std.specs.Prelude.{◌≡◌, ◌≢◌, ◌⊎◌, ◌≤◌, ℕ, List, [], length, Option, None, Some, Result, Ok, Err}
use Rattle.std.specs.FinMap as maps
use Rattle.std.specs.Io.KnownBytes.{Consumes, IsAtEnd}
use Rattle.nb_streams.specs.Lines.{HasLines}
use Rattle.nb_table.specs.declared.fault.TableFault.TheVariants.{MisplacedFirst, TooLong, FullSource, Full, NoMemory}
use Rattle.nb_capture.specs.declared.line.Line.{Line}
use Rattle.nb_capture.specs.declared.line.Line.TheVariants.{Packet as PacketLine, Tick}
use Rattle.nb_member.specs.declared.outcome.MemberFault.{MemberFault}
use Rattle.nb_member.specs.declared.outcome.MemberFault.TheVariants.{Packet, Table}
use Rattle.nb_member.specs.declared.outcome.Outcome.{Outcome}
use Rattle.nb_capture.specs.LineTaking.{TakesEach}
use Rattle.nb_member.specs.Events.{limits_of}
use Rattle.nb_member.specs.Member.{MemberValue, contents, with_timed, after_clock}
use Rattle.nb_member.specs.Taking.{Takes}
use Rattle.nbt_reassembly.specs.declared.capacity.Capacity.{Capacity}
use Rattle.nbt_reassembly.specs.Capacity.{program_settings}
use Rattle.nb_streams.specs.Hexadecimal.{digits_text}
use Rattle.nb_table.specs.Contents.{Contents}
use Rattle.nb_table.specs.Saved.{saved}
use Rattle.nbt_command.specs.Printing.{line}

-- ---- what the program prints of tables (our choice)

-- the saved table in hexadecimal
abbrev pub saved_digits : Contents → List ℕ
saved_digits contents = digits_text (saved contents)

-- the same, as a line
abbrev pub saved_line : Contents → List ℕ
saved_line contents = line (saved_digits contents)

-- new_saver c: the member before the first line
abbrev pub new_saver : Capacity → MemberValue
new_saver c = record {
  settings = program_settings c;
  names = [];
  timed = record {
    table = record { contents = maps.empty; limits = limits_of (program_settings c) };
    moments = maps.empty;
  };
}

-- the member's answer to a payload ends nothing: a packet that is refused is passed over, unless the
-- table is full, for its address or at all, or memory ran out
abbrev pub GoesOn : Result Outcome MemberFault → Type 0
GoesOn (Ok outcome) = Unit {0}
GoesOn (Err (Packet fault error)) = Unit {0}
GoesOn (Err (Table MisplacedFirst)) = Unit {0}
GoesOn (Err (Table TooLong)) = Unit {0}
GoesOn (Err (Table (FullSource key))) = ⊥
GoesOn (Err (Table (Full key))) = ⊥
GoesOn (Err (Table NoMemory)) = ⊥

-- TakesPayload m moment payload new: the payload makes the member m the member new, and ends nothing
pub record TakesPayload (m : MemberValue) (moment : ℕ) (payload : List ℕ) (new : MemberValue) : Type 0 where
  pub answer : Result Outcome MemberFault
  pub taken : Takes m moment payload new answer
  pub goes_on : GoesOn answer

-- TakesSaid m said new: what a line says, if anything, makes the member m the member new
abbrev pub TakesSaid : MemberValue → Option Line → MemberValue → Type 0
TakesSaid m None new = new ≡ m
TakesSaid m (Some (Tick now)) new = new ≡ with_timed m (after_clock m.timed now)
TakesSaid m (Some (PacketLine port moment payload)) new =
    ((port ≡ 138) × TakesPayload m moment payload new) ⊎ ((port ≢ 138) × (new ≡ m))

-- the same of line n
abbrev pub SavesLine : ℕ → List ℕ → Option Line → MemberValue → MemberValue → Type 0
SavesLine n line said m new = TakesSaid m said new

-- TakesInput c most old_in new_in new: the whole input was read, which has so many bytes at most, and its lines made a member
-- that may hold so much, without names, the member new
pub record TakesInput (c : Capacity) (most : ℕ) (old_in new_in : Option (List ℕ)) (new : MemberValue) : Type 0 where
  pub capture : List ℕ
  pub read : Consumes old_in new_in capture
  pub ended : IsAtEnd new_in
  pub within : length capture ≤ most
  pub lines : List (List ℕ)
  pub has : HasLines capture lines
  pub took : TakesEach SavesLine 1 lines (new_saver c) new

-- SavesCapture IsGiven IsMost IsPrinted old_in new_in: a member that may hold as much as is given took the lines of the input,
-- which has at most as many bytes as is said, and the table that it then has was printed, as IsPrinted says of its
-- digits
pub record SavesCapture (IsGiven : Capacity → Type 0) (IsMost : ℕ → Type 0) (IsPrinted : List ℕ → Type 0) (old_in new_in : Option (List ℕ)) : Type 0 where
  pub capacity : Capacity
  pub given : IsGiven capacity
  pub most : ℕ
  pub limited : IsMost most
  pub new : MemberValue
  pub took : TakesInput capacity most old_in new_in new
  pub printed : IsPrinted (saved_digits (contents new))
