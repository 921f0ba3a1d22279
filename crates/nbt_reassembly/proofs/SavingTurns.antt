-- What taking the lines of a capture comes to.
use Rattle.nbt_reassembly.proofs.Common.{◌≡◌, ◌≢◌, ℕ, List, Option, Some, None, Result, Ok, Err, IfErr, refl, subst, Consumes, IfErr-at_err, Counts, ShowsUnread, with_rest, TableValue, Key, PacketLine, Tick, MemberValue, Capacity, Fault, FullSource, Full, Memory, Read, Write, MemberFault, PayloadStops, SaidStops, StopsSaving, UnsavedLine, saved_digits, SavesCapture, SavesLine, TakesInput, new_saver}
use Rattle.nb_table.specs.declared.fault.TableFault.TheVariants as tables
use Rattle.nb_capture.specs.declared.line.Line.{Line}
use Rattle.nb_member.specs.declared.outcome.MemberFault.TheVariants.{Table}
use Rattle.nb_capture.specs.LineTaking.{TakesEach, EndsEarly, malformed, unread, no_memory, not_taken, TakesLines}
use Rattle.nb_member.specs.Taking.{Takes}
use Rattle.nbt_command.specs.Reported.{of_capture}

-- ---- what a line says

-- a payload for which there is no room, or no memory
pub payload_full : {X : Type 0} (m new : MemberValue) (moment : ℕ) (payload : List ℕ) (held : Result X MemberFault) (key : Key)
    → IfErr held (λ fault. Takes m moment payload new (Err fault)) → held ≡ Err (Table (tables.Full key)) → PayloadStops m moment payload Full
payload_full m new moment payload held key refused is =
    (key, new, IfErr-at_err (λ fault. Takes m moment payload new (Err fault)) is refused)

pub payload_full_source : {X : Type 0} (m new : MemberValue) (moment : ℕ) (payload : List ℕ) (held : Result X MemberFault) (key : Key)
    → IfErr held (λ fault. Takes m moment payload new (Err fault)) → held ≡ Err (Table (tables.FullSource key)) → PayloadStops m moment payload FullSource
payload_full_source m new moment payload held key refused is =
    (key, new, IfErr-at_err (λ fault. Takes m moment payload new (Err fault)) is refused)

pub payload_memory : {X : Type 0} (m new : MemberValue) (moment : ℕ) (payload : List ℕ) (held : Result X MemberFault)
    → IfErr held (λ fault. Takes m moment payload new (Err fault)) → held ≡ Err (Table tables.NoMemory) → PayloadStops m moment payload Memory
payload_memory m new moment payload held refused is =
    (new, IfErr-at_err (λ fault. Takes m moment payload new (Err fault)) is refused)

-- a line whose payload isn't taken
pub said_stops : (m : MemberValue) (said : Option Line) (port moment : ℕ) (payload seen : List ℕ) (fault : Fault)
    → said ≡ Some (PacketLine port moment payload) → port ≡ 138 → seen ≡ payload → PayloadStops m moment seen fault → SaidStops m said fault
said_stops m said port moment payload seen fault is at same stops =
    rw is (at, subst (λ (bytes : List ℕ). PayloadStops m moment bytes fault) same stops)

-- ---- the lines of an input

-- TakesBytes most first left counts later old new taken: what is said of the bytes that were read, and of their lines
abbrev pub TakesBytes : ℕ → Option (List ℕ) → Option (List ℕ) → Counts → Counts → MemberValue → MemberValue → Result ℕ Fault → Type 0
TakesBytes most first left counts later old new taken =
    (bytes : List ℕ) × Consumes first left bytes × TakesLines SavesLine UnsavedLine (λ why f. f ≡ of_capture why) most bytes left counts later old new taken

-- the whole input was taken
pub took_input : (c : Capacity) (most : ℕ) (old_in new_in : Option (List ℕ)) (counts after : Counts) (first new : MemberValue) (n : ℕ)
    → TakesBytes most old_in new_in counts after first new (Ok n) → first ≡ new_saver c → TakesInput c most old_in new_in new
took_input c most old_in new_in counts after first new n t same =
    let u = t.2 in record {
      capture = t.0;
      read = t.1;
      ended = u.3.at_end;
      within = u.3.within;
      lines = with_rest u.0 u.1;
      has = record { finished = u.0; last = u.1; cut = u.2; are = refl };
      took = subst (λ (m : MemberValue). TakesEach SavesLine 1 (with_rest u.0 u.1) m new) same u.5;
    }

-- what a line says is refused for neither device's sake
no_device : (m : MemberValue) (said : Option Line) (fault : Fault) → SaidStops m said fault → (fault ≢ Read) × (fault ≢ Write)
no_device m None fault stops = absurd stops
no_device m (Some (Tick now)) fault stops = absurd stops
no_device m (Some (PacketLine port moment payload)) FullSource stops = (λ is. absurd (cc is), λ is. absurd (cc is))
no_device m (Some (PacketLine port moment payload)) Full stops = (λ is. absurd (cc is), λ is. absurd (cc is))
no_device m (Some (PacketLine port moment payload)) Memory stops = (λ is. absurd (cc is), λ is. absurd (cc is))
no_device m (Some (PacketLine port moment payload)) _ stops = absurd stops.1

-- EndsSaving most bytes left counts later old new fault: why not all lines of these bytes were taken
abbrev pub EndsSaving : ℕ → List ℕ → Option (List ℕ) → Counts → Counts → MemberValue → MemberValue → Fault → Type 0
EndsSaving most bytes left counts later old new fault =
    EndsEarly SavesLine UnsavedLine (λ why f. f ≡ of_capture why) most bytes left counts later old new fault

-- Read is answered where the input couldn't be read
unread_so : (most : ℕ) (bytes : List ℕ) (left : Option (List ℕ)) (counts later : Counts) (old new : MemberValue) (fault : Fault)
    → EndsSaving most bytes left counts later old new fault → fault ≡ Read → ShowsUnread most bytes counts later
unread_so most bytes left counts later old new fault (malformed lines comes each gives) is = absurd (cc (gives, is))
unread_so most bytes left counts later old new fault (unread lines rest cut within each shows gives) is = shows
unread_so most bytes left counts later old new fault (no_memory lines more_lines are each gives) is = absurd (cc (gives, is))
unread_so most bytes left counts later old new fault (not_taken t) is = absurd ((no_device t.between t.said fault t.fails).0 is)

-- not all lines were taken
pub stops_saving : (c : Capacity) (most : ℕ) (old_in new_in : Option (List ℕ)) (counts after : Counts) (first new : MemberValue) (fault : Fault)
    → TakesBytes most old_in new_in counts after first new (Err fault) → first ≡ new_saver c → StopsSaving c most old_in new_in counts after fault
stops_saving c most old_in new_in counts after first new fault t same = record {
  bytes = t.0;
  read = t.1;
  cut = unread_so most t.0 new_in counts after first new fault t.2;
  left = new;
  stops = subst (λ (m : MemberValue). EndsSaving most t.0 new_in counts after m new fault) same t.2;
}

no_write : (most : ℕ) (bytes : List ℕ) (left : Option (List ℕ)) (counts later : Counts) (old new : MemberValue) (fault : Fault)
    → EndsSaving most bytes left counts later old new fault → fault ≢ Write
no_write most bytes left counts later old new fault (malformed lines comes each gives) is = absurd (cc (gives, is))
no_write most bytes left counts later old new fault (unread lines rest cut within each shows gives) is = absurd (cc (gives, is))
no_write most bytes left counts later old new fault (no_memory lines more_lines are each gives) is = absurd (cc (gives, is))
no_write most bytes left counts later old new fault (not_taken t) is = absurd ((no_device t.between t.said fault t.fails).1 is)

-- nothing was to be printed then
pub stops_before : (c : Capacity) (most : ℕ) (old_in new_in : Option (List ℕ)) (old after : Counts) (fault : Fault) → StopsSaving c most old_in new_in old after fault → fault ≢ Write
stops_before c most old_in new_in old after fault s = no_write most s.bytes new_in old after (new_saver c) s.left fault s.stops

-- the table of a member that took the whole input is printed
pub saves_capture : (IsGiven : Capacity → Type 0) (IsMost : ℕ → Type 0) (IsPrinted : List ℕ → Type 0) (old_in new_in : Option (List ℕ)) (c : Capacity) (most : ℕ) (m : MemberValue) (t : TableValue)
    → IsGiven c → IsMost most → TakesInput c most old_in new_in m → t ≡ m.timed.table → IsPrinted (saved_digits t.contents) → SavesCapture IsGiven IsMost IsPrinted old_in new_in
saves_capture IsGiven IsMost IsPrinted old_in new_in c most m t given limited took is printed = record {
  capacity = c;
  given = given;
  most = most;
  limited = limited;
  new = m;
  took = took;
  printed = subst (λ (u : TableValue). IsPrinted (saved_digits u.contents)) is printed;
}
