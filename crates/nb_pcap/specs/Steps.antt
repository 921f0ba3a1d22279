-- The steps of reading a part of a file (our choice).
use Rattle.std.specs.Prelude.{◌≡◌, ◌⊎◌, ◌≤◌, ◌+◌, ◌++◌, ℕ, List, [], length, Option, None, Result, Ok, Err}
use Rattle.std.specs.Io.KnownBytes.{Consumes, IsAtEnd}
use Rattle.nb_streams.specs.Counted.{Counts}
use Rattle.nb_streams.specs.Devices.{GrowTo, ShowsReadFault}
use Rattle.nb_streams.specs.Room.{RoomValue}
use Rattle.nb_streams.specs.declared.limits.TheConstants.{MAX_READ}
use Rattle.nb_pcap.specs.declared.context.Context.{Context}
use Rattle.nb_pcap.specs.declared.fault.FileFault.{FileFault}
use Rattle.nb_pcap.specs.declared.fault.FileFault.TheVariants as fault
use Rattle.nb_pcap.specs.File.{IsPart, IsUnfinished, IsBad, IsEnd}

-- ShowsUnread counts later room: a read failed, or the file may have no byte more
abbrev pub ShowsUnread : Counts → Counts → RoomValue → Type 0
ShowsUnread counts later room = ShowsReadFault counts later ⊎ (room.taken ≡ room.most)

-- Took got old before left counts later new: these bytes came from the reader into the room
pub record Took (got : List ℕ) (old : RoomValue) (before left : Option (List ℕ)) (counts later : Counts) (new : RoomValue) : Type 0 where
  pub consumes : Consumes before left got
  pub taken : new.taken ≡ old.taken + length got
  pub most : new.most ≡ old.most
  pub within : old.taken ≤ old.most → new.taken ≤ new.most
  pub grow : GrowTo counts later

-- ReadsOnce got left counts later new result: what reading once answers where these bytes came: how many, none at the end; or why none came
abbrev pub ReadsOnce : List ℕ → Option (List ℕ) → Counts → Counts → RoomValue → Result ℕ FileFault → Type 0
ReadsOnce got left counts later new (Ok n) = (n ≡ length got) × (n ≡ 0 → IsAtEnd left) × (n ≤ MAX_READ)
ReadsOnce got left counts later new (Err why) = (got ≡ []) × ((why ≡ fault.NoMemory) ⊎ ((why ≡ fault.Read) × ShowsUnread counts later new))

-- Reads old before left counts later result new: what a room has after reading once: so many bytes more, or those it had
pub record Reads (old : RoomValue) (before left : Option (List ℕ)) (counts later : Counts) (result : Result ℕ FileFault) (new : RoomValue) : Type 0 where
  pub got : List ℕ
  pub took : Took got old before left counts later new
  pub rest : new.rest ≡ old.rest ++ got
  pub once : ReadsOnce got left counts later new result

-- Stops context bytes left counts later room fault: why no part is read of these bytes
pub data Stops (context : Context) (bytes : List ℕ) (left : Option (List ℕ)) (counts later : Counts) (room : RoomValue) : FileFault → Type 0 where
  bad : (why : FileFault) → IsBad context bytes why → Stops context bytes left counts later room why
  cut : IsUnfinished context bytes → IsAtEnd left → (IsEnd context bytes → ⊥) → Stops context bytes left counts later room fault.Cut
  unread : IsUnfinished context bytes → ShowsUnread counts later room → Stops context bytes left counts later room fault.Read
  no_memory : Stops context bytes left counts later room fault.NoMemory

-- PassesPart context bytes left counts later result new: a part stands at the front of these bytes that gives nothing, and the room has
-- less than a read after it; or why no part is read
abbrev pub PassesPart : Context → List ℕ → Option (List ℕ) → Counts → Counts → Result Unit FileFault → RoomValue → Type 0
PassesPart context bytes left counts later (Ok done) new =
    (part : List ℕ) × (bytes ≡ part ++ new.rest) × IsPart context part (record { head = None; next = context }) × (length new.rest ≤ MAX_READ)
PassesPart context bytes left counts later (Err why) new = Stops context bytes left counts later new why

-- Passes context old before left counts later result new: a call that passes over a part
pub record Passes (context : Context) (old : RoomValue) (before left : Option (List ℕ)) (counts later : Counts)
    (result : Result Unit FileFault) (new : RoomValue) : Type 0 where
  pub got : List ℕ
  pub took : Took got old before left counts later new
  pub passes : PassesPart context (old.rest ++ got) left counts later result new
