-- What stands after whole packets.
use Rattle.std.specs.Prelude.{ℕ, ◌≡◌, ◌+◌, ◌<◌, ◌≤◌, ◌%◌, ◌^◌, ◌⊎◌, Bool, false, IsTrue, List, length, Option, Some, None}
use Rattle.nb_session.specs.declared.fault.SessionFault.{SessionFault}
use Rattle.nb_session.specs.declared.limits.TheConstants.{HEADER_LENGTH, MAX_PACKET}
use Rattle.nb_session.specs.declared.parsing.Parsed.TheVariants.{More, Refused as refused}
use Rattle.nb_session.specs.Parsing.{Parses}
use Rattle.nb_connections.specs.declared.closing.Closed.{Closed}
use Rattle.nb_connections.specs.declared.closing.Closed.TheVariants.{Gap, BadHeader}
use Rattle.nb_connections.specs.declared.cutting.Rest.{Rest}
use Rattle.nb_connections.specs.declared.cutting.Rest.TheVariants.{Lacks, Refused}

-- StandsAfter bytes rest: this is what these bytes are, which begin with no whole packet
abbrev pub StandsAfter : List ℕ → Rest → Type 0
StandsAfter bytes (Lacks needed) = Parses bytes (More needed)
StandsAfter bytes (Refused fault) = Parses bytes (refused fault)

-- Closes rest held number bytes is_missing is_full closed: where this rest, of so many bytes, is held, bytes are missing after those of
-- this segment, if some are, and no room is left, if none is, this ends the reading
abbrev pub Closes : Rest → ℕ → ℕ → List ℕ → Bool → Bool → Option Closed → Type 0
Closes rest held number bytes is_missing is_full None = (needed : ℕ) × (rest ≡ Lacks needed) × (is_missing ≡ false) × (is_full ≡ false)
Closes rest held number bytes is_missing is_full (Some BadHeader) = (fault : SessionFault) × (rest ≡ Refused fault)
Closes rest held number bytes is_missing is_full (Some (Gap None)) = (needed : ℕ) × (rest ≡ Lacks needed)
    × ((IsTrue is_missing × ((held < HEADER_LENGTH) ⊎ (MAX_PACKET < needed))) ⊎ IsTrue is_full)
Closes rest held number bytes is_missing is_full (Some (Gap (Some end))) = IsTrue is_missing × (HEADER_LENGTH ≤ held)
    × (needed : ℕ) × (rest ≡ Lacks needed) × (end ≡ (number + length bytes + needed) % 2 ^ 32)
