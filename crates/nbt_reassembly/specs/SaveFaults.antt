-- Why `nbt save` doesn't save a capture, and at which line (our choice). Lines are numbered from 1.
use Rattle.std.specs.Prelude.{◌≡◌, ℕ, List, Option, Some, Err}
use Rattle.std.specs.Io.KnownBytes.{Consumes}
use Rattle.nb_streams.specs.Counted.{Counts}
use Rattle.nb_streams.specs.Devices.{ShowsUnread}
use Rattle.nb_datagram.specs.declared.key.Key.{Key}
use Rattle.nb_table.specs.declared.fault.TableFault.TheVariants as tables
use Rattle.nb_capture.specs.declared.line.Line.{Line}
use Rattle.nb_capture.specs.declared.line.Line.TheVariants.{Packet as PacketLine}
use Rattle.nb_member.specs.declared.outcome.MemberFault.TheVariants.{Table}
use Rattle.nb_capture.specs.LineTaking.{EndsEarly}
use Rattle.nb_member.specs.Member.{MemberValue}
use Rattle.nb_member.specs.Taking.{Takes}
use Rattle.nbt_reassembly.specs.declared.capacity.Capacity.{Capacity}
use Rattle.nbt_command.specs.declared.fault.Fault.{Fault}
use Rattle.nbt_command.specs.declared.fault.Fault.TheVariants.{Arguments, FullSource, Full, Read, Write, Memory}
use Rattle.nbt_command.specs.Reported.{of_capture}
use Rattle.nbt_reassembly.specs.Saving.{SavesLine, new_saver}
use Rattle.nbt_reassembly.specs.Capacity.{HasNoCapacity}

-- PayloadStops m moment payload fault: why the member m doesn't take the payload: its table has no room for a key
-- more, of its address or at all, or memory ran out
abbrev pub PayloadStops : MemberValue → ℕ → List ℕ → Fault → Type 0
PayloadStops m moment payload Full = (key : Key) × (new : MemberValue) × Takes m moment payload new (Err (Table (tables.Full key)))
PayloadStops m moment payload FullSource = (key : Key) × (new : MemberValue) × Takes m moment payload new (Err (Table (tables.FullSource key)))
PayloadStops m moment payload Memory = (new : MemberValue) × Takes m moment payload new (Err (Table tables.NoMemory))
PayloadStops m moment payload _ = ⊥

-- SaidStops m said fault: why the member m doesn't take what a line says
abbrev pub SaidStops : MemberValue → Option Line → Fault → Type 0
SaidStops m (Some (PacketLine port moment payload)) fault = (port ≡ 138) × PayloadStops m moment payload fault
SaidStops m _ fault = ⊥

-- the same of line n
abbrev pub UnsavedLine : ℕ → List ℕ → Option Line → MemberValue → MemberValue → Fault → Type 0
UnsavedLine n line said m new fault = SaidStops m said fault

-- StopsSaving c most old_in new_in old new fault: these bytes were read of an input of so many bytes at most, and a member that
-- may hold so much doesn't take the lines among them, for this reason
pub record StopsSaving (c : Capacity) (most : ℕ) (old_in new_in : Option (List ℕ)) (old new : Counts) (fault : Fault) : Type 0 where
  pub bytes : List ℕ
  pub read : Consumes old_in new_in bytes
  pub cut : fault ≡ Read → ShowsUnread most bytes old new
  pub left : MemberValue
  pub stops : EndsEarly SavesLine UnsavedLine (λ why f. f ≡ of_capture why) most bytes new_in old new (new_saver c) left fault

-- SaveFails IsGiven IsMost old_in new_in old new fault: why nothing is saved: no capacity is given, the output failed, or for
-- a line
pub data SaveFails (IsGiven : Capacity → Type 0) (IsMost : ℕ → Type 0) (old_in new_in : Option (List ℕ)) (old new : Counts) (fault : Fault) : Type 0 where
  no_capacity : HasNoCapacity IsGiven → fault ≡ Arguments → SaveFails IsGiven IsMost old_in new_in old new fault
  output_fails : fault ≡ Write → SaveFails IsGiven IsMost old_in new_in old new fault
  line_fails : (c : Capacity) (most : ℕ) → IsGiven c → IsMost most → StopsSaving c most old_in new_in old new fault
      → SaveFails IsGiven IsMost old_in new_in old new fault
