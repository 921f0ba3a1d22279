-- What a room for the bytes of an input has, and what its calls do (our choice).
use Rattle.std.specs.Prelude.{◌≡◌, ◌⊎◌, ◌<◌, ◌≤◌, ◌+◌, ◌++◌, ℕ, List, [], take, drop, length, Option, Result, Ok, Err}
use Rattle.std.specs.Io.KnownBytes.{Consumes, Keeps, IsAtEnd}
use Rattle.nb_streams.specs.Counted.{Counts}
use Rattle.nb_streams.specs.Devices.{GrowTo, ShowsReadFault}
use Rattle.nb_streams.specs.declared.limits.TheConstants.{MAX_INPUT, MAX_READ}
use Rattle.nb_streams.specs.declared.fault.RoomFault.{RoomFault}
use Rattle.nb_streams.specs.declared.fault.RoomFault.TheVariants.{Read, NoMemory}

-- the bytes lent last, those that were read after them, how many of the input were kept in all, and how many it may have
pub record RoomValue : Type 0 where
  pub lent : List ℕ
  pub rest : List ℕ
  pub taken : ℕ
  pub most : ℕ

-- the room of an input of so many bytes at most, of which nothing was read
abbrev pub nothing_within : ℕ → RoomValue
nothing_within most = record { lent = []; rest = []; taken = 0; most = most }

-- the same of an input of the usual limit
abbrev pub nothing_held : RoomValue
nothing_held = nothing_within MAX_INPUT

-- the room without what was lent last
abbrev pub let_go_of : RoomValue → RoomValue
let_go_of r = record { lent = []; rest = r.rest; taken = r.taken; most = r.most }

-- the room after so many first bytes of the rest were lent
abbrev pub handed_out : ℕ → RoomValue → RoomValue
handed_out n r = record { lent = take n r.rest; rest = drop n r.rest; taken = r.taken; most = r.most }

-- the room with these bytes more, and nothing lent
abbrev pub with_bytes : RoomValue → List ℕ → RoomValue
with_bytes r got = record { lent = []; rest = r.rest ++ got; taken = r.taken + length got; most = r.most }

-- ReadsMore old before left counts later result new: what reading once gives: so many bytes more, no more than a read
-- asks for, none at the end; or the input can't be read further, maybe because it gave more bytes than it may have; or
-- nothing was read
abbrev pub ReadsMore : RoomValue → Option (List ℕ) → Option (List ℕ) → Counts → Counts → Result ℕ RoomFault → RoomValue → Type 0
ReadsMore old before left counts later (Ok n) new =
    (got : List ℕ) × (n ≡ length got) × Consumes before left got × (old.taken + n ≤ old.most)
    × (n ≡ 0 → IsAtEnd left) × (new ≡ with_bytes old got) × GrowTo counts later × (n ≤ MAX_READ)
ReadsMore old before left counts later (Err Read) new =
    (over : List ℕ) × Consumes before left over
    × ((ShowsReadFault counts later × (over ≡ [])) ⊎ ((0 < length over) × (old.taken ≡ old.most)))
    × (new ≡ let_go_of old) × GrowTo counts later × (length over ≤ 1)
ReadsMore old before left counts later (Err NoMemory) new =
    Keeps before left × (new ≡ let_go_of old) × (later ≡ counts)
