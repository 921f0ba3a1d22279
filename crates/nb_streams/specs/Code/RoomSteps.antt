-- The steps of reading into a room (our choice).
use Rattle.std.specs.Prelude.{◌≡◌, ◌⊎◌, ◌<◌, ◌≤◌, ◌+◌, ◌++◌, ℕ, List, [], take, length, Option, Result, Ok, Err}
use Rattle.std.specs.Io.KnownBytes.{Consumes, Keeps, IsAtEnd}
use Rattle.nb_streams.specs.Counted.{Counts}
use Rattle.nb_streams.specs.Devices.{GrowTo, ShowsReadFault}
use Rattle.nb_streams.specs.declared.limits.TheConstants.{MAX_READ}
use Rattle.nb_streams.specs.declared.fault.DeviceFault.{DeviceFault}
use Rattle.nb_streams.specs.declared.fault.RoomFault.{RoomFault}
use Rattle.nb_streams.specs.declared.fault.RoomFault.TheVariants.{Read, NoMemory}

-- IsRoom open bytes from start end taken most: such are the places and numbers of a room
pub record IsRoom (most_open : ℕ) (bytes : List ℕ) (from start end taken most : ℕ) : Type 0 where
  pub handed_out : from ≤ start
  pub held : start ≤ end
  pub kept : end ≤ length bytes
  pub within : length bytes ≤ most_open + MAX_READ
  pub came : end ≤ from + taken
  pub looked_at : taken ≤ most

-- ReadsBehind before left counts later bytes new held most result: a read put so many bytes behind these, which are so
-- many at the front, where the input may have at most so many more; or the input can't be read further, maybe because it
-- gave more bytes than it may have; or nothing was read
abbrev pub ReadsBehind : Option (List ℕ) → Option (List ℕ) → Counts → Counts → List ℕ → List ℕ → ℕ → ℕ → Result ℕ RoomFault → Type 0
ReadsBehind before left counts later bytes new held most (Ok n) =
    (got : List ℕ) × (n ≡ length got) × Consumes before left got × (n ≤ most) × (n ≡ 0 → IsAtEnd left)
    × (take (held + n) new ≡ bytes ++ got) × GrowTo counts later × (n ≤ MAX_READ)
ReadsBehind before left counts later bytes new held most (Err Read) =
    (over : List ℕ) × Consumes before left over
    × ((ShowsReadFault counts later × (over ≡ [])) ⊎ ((0 < length over) × (most ≡ 0)))
    × (take held new ≡ bytes) × GrowTo counts later × (length over ≤ 1)
ReadsBehind before left counts later bytes new held most (Err NoMemory) =
    Keeps before left × (take held new ≡ bytes) × (later ≡ counts)

-- ReadsInto before left counts later old new held most result: a read put so many bytes, no more than are
-- asked for, into the buffer, after those held; or it failed
abbrev pub ReadsInto : Option (List ℕ) → Option (List ℕ) → Counts → Counts → List ℕ → List ℕ → ℕ → ℕ → Result ℕ DeviceFault → Type 0
ReadsInto before left counts later old new held most (Ok n) =
    (got : List ℕ) × (n ≡ length got) × (n ≤ most) × Consumes before left got × (n ≡ 0 → IsAtEnd left)
    × (take (held + n) new ≡ take held old ++ got) × (take held new ≡ take held old) × GrowTo counts later
ReadsInto before left counts later old new held most (Err _) =
    Keeps before left × (take held new ≡ take held old) × ShowsReadFault counts later × GrowTo counts later
