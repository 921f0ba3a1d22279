-- When an input wasn't read to its end (our choice).
use Rattle.std.specs.Prelude.{ℕ, List, Option}
use Rattle.std.specs.Io.KnownBytes.{Consumes}
use Rattle.nb_streams.specs.Counted.{Counts}
use Rattle.nb_streams.specs.Devices.{ShowsUnread}

-- WasCut most old_in new_in old new: the input, which may have so many bytes, was cut where it was read so far, and
-- with these counts
abbrev pub WasCut : ℕ → Option (List ℕ) → Option (List ℕ) → Counts → Counts → Type 0
WasCut most old_in new_in old new = (bytes : List ℕ) × Consumes old_in new_in bytes × ShowsUnread most bytes old new
