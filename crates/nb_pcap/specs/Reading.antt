-- What reading the next frame of a file answers, and what the room then has.
use Rattle.std.specs.Prelude.{◌≡◌, ◌<◌, ◌≤◌, ◌+◌, ◌-◌, ◌^◌, ◌++◌, ◌∷◌, ℕ, List, [], length, Option, Some, None, Result, Ok, Err, option_map}
use Rattle.std.specs.Io.KnownBytes.{Consumes, IsAtEnd}
use Rattle.nb_streams.specs.Counted.{Counts}
use Rattle.nb_streams.specs.Devices.{GrowTo}
use Rattle.nb_streams.specs.Room.{RoomValue, nothing_within}
use Rattle.nb_streams.specs.declared.limits.TheConstants.{MAX_READ}
use Rattle.nb_pcap.specs.declared.context.Context.{Context}
use Rattle.nb_pcap.specs.declared.context.Context.TheVariants.{Beginning}
use Rattle.nb_pcap.specs.declared.fault.FileFault.{FileFault}
use Rattle.nb_pcap.specs.declared.frame.Frame.{Frame}
use Rattle.nb_pcap.specs.declared.frame.Head.{Head}
use Rattle.nb_pcap.specs.declared.file_reading.Standing.{Standing}
use Rattle.nb_pcap.specs.declared.file_reading.Standing.TheVariants.{Reading, Ended, Stopped}
use Rattle.nb_pcap.specs.File.{Spells}
use Rattle.nb_pcap.specs.Frame.{FrameValue, frame_at, value_of}
use Rattle.nb_pcap.specs.Steps.{Stops}

-- what a room for a file has: the bytes, what the next part is read by, the byte at which that begins, how many frames were given,
-- how it stands to the file, and where the frame that was given last stands in what was lent last
pub record FileValue : Type 0 where
  pub room : RoomValue
  pub context : Context
  pub place : ℕ
  pub frames : ℕ
  pub standing : Standing
  pub last : Option Head

-- before anything was read, of a file of fewer than 2^64 bytes
abbrev pub nothing_read : FileValue
nothing_read = record { room = nothing_within (2 ^ 64 - 1); context = Beginning; place = 0; frames = 0; standing = Reading; last = None }

-- IsFileRoom room place frames standing last: such are the numbers of a room for a file, which gives a frame again while it is read
pub record IsFileRoom (room : RoomValue) (place frames : ℕ) (standing : Standing) (last : Option Head) : Type 0 where
  pub most : room.most ≡ 2 ^ 64 - 1
  pub within : room.taken ≤ room.most
  pub counted : frames ≤ place
  pub below : place ≤ room.taken
  pub place_is : standing ≡ Reading → place + length room.rest ≡ room.taken
  pub near : standing ≡ Reading → length room.rest ≤ MAX_READ
  pub given : (standing ≡ Reading → ⊥) → last ≡ None

-- a frame, and its number in the file, the first being 1
pub record Numbered : Type 0 where
  pub number : ℕ
  pub frame : FrameValue

-- a frame that is lent, by its value
abbrev pub frame_lent : Option Frame → Option Numbered
frame_lent lent = option_map (λ (f : Frame). record { number = f.number; frame = value_of f }) lent

-- what is answered, a frame by its value
abbrev pub lent_frame : Result (Option Frame) FileFault → Result (Option Numbered) FileFault
lent_frame (Ok lent) = Ok (frame_lent lent)
lent_frame (Err why) = Err why

-- the frame that was given last
abbrev pub last_of : FileValue → Option Numbered
last_of file = option_map (λ (head : Head). record { number = file.frames; frame = frame_at file.context file.room.lent head }) file.last

-- what is answered, where it is this frame
abbrev pub answered : FileValue → Result Unit FileFault → Result (Option Numbered) FileFault
answered file (Ok done) = Ok (last_of file)
answered file (Err why) = Err why

-- GivesAgain result new: the room gives again what was answered, and none at a fault
abbrev pub GivesAgain : Result (Option Numbered) FileFault → FileValue → Type 0
GivesAgain (Ok found) new = last_of new ≡ found
GivesAgain (Err why) new = last_of new ≡ None

-- Finds old got left counts later result new: what is answered where these bytes came after those that were held, and what the room then has
abbrev pub Finds : FileValue → List ℕ → Option (List ℕ) → Counts → Counts → Result (Option Numbered) FileFault → FileValue → Type 0
Finds old got left counts later (Ok (Some found)) new =
    Spells old.context (old.room.rest ++ got) (found.frame ∷ []) new.context new.room.rest
    × (found.number ≡ old.frames + 1) × (new.frames ≡ old.frames + 1) × (new.standing ≡ Reading)
    × (length new.room.rest ≤ MAX_READ)
    × (new.place + length new.room.rest ≡ old.place + length (old.room.rest ++ got)) × (found.number < 2 ^ 64)
Finds old got left counts later (Ok None) new =
    Spells old.context (old.room.rest ++ got) [] new.context [] × IsAtEnd left × (new.context ≡ Beginning → ⊥)
    × (new.frames ≡ old.frames) × (new.standing ≡ Ended)
Finds old got left counts later (Err why) new =
    (rest : List ℕ) × Spells old.context (old.room.rest ++ got) [] new.context rest × Stops new.context rest left counts later new.room why
    × (new.place + length rest ≡ old.place + length (old.room.rest ++ got)) × (new.frames ≡ old.frames) × (new.standing ≡ Stopped why)

-- ReadsOn old before left counts later result new: a call for the next frame, where the file is read on
pub record ReadsOn (old : FileValue) (before left : Option (List ℕ)) (counts later : Counts) (result : Result (Option Numbered) FileFault) (new : FileValue) : Type 0 where
  pub got : List ℕ
  pub consumes : Consumes before left got
  pub finds : Finds old got left counts later result new
  pub taken : new.room.taken ≡ old.room.taken + length got
  pub most : new.room.most ≡ old.room.most
  pub grow : GrowTo counts later

-- Repeats: a call for the next frame, where this is answered from now on: nothing is read, and the room is as it was
pub record Repeats (old : FileValue) (before left : Option (List ℕ)) (counts later : Counts) (answer result : Result (Option Numbered) FileFault) (new : FileValue) : Type 0 where
  pub same : result ≡ answer
  pub left_is : left ≡ before
  pub counts_are : later ≡ counts
  pub standing : new.standing ≡ old.standing
  pub place : new.place ≡ old.place
  pub frames : new.frames ≡ old.frames
  pub rest : new.room.rest ≡ old.room.rest

-- ReadsFrom standing old before left counts later result new: a call for the next frame, where the room stands so
abbrev pub ReadsFrom : Standing → FileValue → Option (List ℕ) → Option (List ℕ) → Counts → Counts → Result (Option Numbered) FileFault → FileValue → Type 0
ReadsFrom Reading old before left counts later result new = ReadsOn old before left counts later result new
ReadsFrom Ended old before left counts later result new = Repeats old before left counts later (Ok None) result new
ReadsFrom (Stopped why) old before left counts later result new = Repeats old before left counts later (Err why) result new

-- ReadsFrame old before left counts later result new: a call for the next frame, which the room then gives again
abbrev pub ReadsFrame : FileValue → Option (List ℕ) → Option (List ℕ) → Counts → Counts → Result (Option Numbered) FileFault → FileValue → Type 0
ReadsFrame old before left counts later result new = ReadsFrom old.standing old before left counts later result new × GivesAgain result new
