-- Reading from part to part until one gives a frame (our choice).
use Rattle.std.specs.Prelude.{◌≡◌, ◌≤◌, ◌+◌, ◌++◌, ◌∷◌, ℕ, List, [], length, Option, Some, None, Result, Ok, Err}
use Rattle.std.specs.Io.KnownBytes.{IsAtEnd}
use Rattle.nb_streams.specs.Counted.{Counts}
use Rattle.nb_streams.specs.Room.{RoomValue}
use Rattle.nb_streams.specs.declared.limits.TheConstants.{MAX_READ}
use Rattle.nb_pcap.specs.declared.context.Context.{Context}
use Rattle.nb_pcap.specs.declared.context.Context.TheVariants.{Beginning}
use Rattle.nb_pcap.specs.declared.fault.FileFault.{FileFault}
use Rattle.nb_pcap.specs.declared.frame.Head.{Head}
use Rattle.nb_pcap.specs.File.{Spells}
use Rattle.nb_pcap.specs.Frame.{FrameValue, frame_at}
use Rattle.nb_pcap.specs.Steps.{Stops, Took}

-- Seeks context place old before left counts later frames rest next there new: these bytes came, and with those held before, which
-- begin at this place, are parts that give these frames, and this rest, which begins at that place
pub record Seeks (context : Context) (place : ℕ) (old : RoomValue) (before left : Option (List ℕ)) (counts later : Counts)
    (frames : List FrameValue) (rest : List ℕ) (next : Context) (there : ℕ) (new : RoomValue) : Type 0 where
  pub got : List ℕ
  pub took : Took got old before left counts later new
  pub spells : Spells context (old.rest ++ got) frames next rest
  pub place_is : there + length rest ≡ new.taken
  pub after : place + length frames ≤ there

-- SeeksFrame context place old before left counts later result next there new: a call for the next frame
abbrev pub SeeksFrame : Context → ℕ → RoomValue → Option (List ℕ) → Option (List ℕ) → Counts → Counts → Result (Option Head) FileFault → Context → ℕ → RoomValue → Type 0
SeeksFrame context place old before left counts later (Ok (Some head)) next there new =
    Seeks context place old before left counts later (frame_at next new.lent head ∷ []) new.rest next there new
    × (length new.rest ≤ MAX_READ)
SeeksFrame context place old before left counts later (Ok None) next there new =
    Seeks context place old before left counts later [] [] next there new × IsAtEnd left × (next ≡ Beginning → ⊥) × (new.rest ≡ [])
SeeksFrame context place old before left counts later (Err why) next there new =
    (rest : List ℕ) × Seeks context place old before left counts later [] rest next there new × Stops next rest left counts later new why
