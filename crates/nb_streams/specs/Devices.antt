-- What the counts of a reader's or a writer's calls show (our choice).
use Rattle.std.specs.Prelude.{◌⊎◌, ◌<◌, ◌≤◌, ◌+◌, ℕ, List, take, length, Option}
use Rattle.std.specs.Io.KnownBytes.{Appends}
use Rattle.nb_streams.specs.Counted.{Counts}
use Rattle.nb_streams.specs.declared.limits.TheConstants.{MAX_INTERRUPTS}

-- GrowTo old new: the counts after some calls more
pub record GrowTo (old new : Counts) : Type 0 where
  pub empty : old.empty ≤ new.empty
  pub interrupted : old.interrupted ≤ new.interrupted
  pub failed : old.failed ≤ new.failed

-- ShowsReadFault old new: of the reads between these counts one failed, or as many were interrupted as are
-- too many in a row
abbrev pub ShowsReadFault : Counts → Counts → Type 0
ShowsReadFault old new = (old.failed < new.failed) ⊎ (old.interrupted + MAX_INTERRUPTS ≤ new.interrupted)

-- ShowsUnread most bytes old new: these bytes are more than so many, or a read failed
abbrev pub ShowsUnread : ℕ → List ℕ → Counts → Counts → Type 0
ShowsUnread most bytes old new = (most < length bytes) ⊎ ShowsReadFault old new

-- ShowsWriteFault old new: of the writes between these counts one failed or took no byte, or as many were
-- interrupted as are too many in a row
abbrev pub ShowsWriteFault : Counts → Counts → Type 0
ShowsWriteFault old new =
    (old.failed < new.failed) ⊎ ((old.empty < new.empty) ⊎ (old.interrupted + MAX_INTERRUPTS ≤ new.interrupted))

-- AppendsFront old new bytes: a writer that held the old bytes has a front of these after them now
abbrev pub AppendsFront : Option (List ℕ) → Option (List ℕ) → List ℕ → Type 0
AppendsFront old new bytes = (count : ℕ) × (count ≤ length bytes) × Appends old new (take count bytes)
