-- The frames of a file, as calls for the next frame give them one after another. Frames are numbered from 1, and bytes of the file
-- from 0.
use Rattle.std.specs.Prelude.{◌≡◌, ◌+◌, ◌-◌, ◌^◌, ℕ, List, [], length, Option}
use Rattle.std.specs.Io.KnownBytes.{Consumes, IsAtEnd}
use Rattle.nb_streams.specs.Counted.{Counts}
use Rattle.nb_streams.specs.Devices.{GrowTo}
use Rattle.nb_streams.specs.Room.{RoomValue}
use Rattle.nb_pcap.specs.declared.context.Context.{Context}
use Rattle.nb_pcap.specs.declared.context.Context.TheVariants.{Beginning}
use Rattle.nb_pcap.specs.declared.fault.FileFault.{FileFault}
use Rattle.nb_pcap.specs.declared.file_reading.Standing.TheVariants.{Reading}
use Rattle.nb_pcap.specs.File.{Spells}
use Rattle.nb_pcap.specs.Frame.{FrameValue}
use Rattle.nb_pcap.specs.Reading.{FileValue}
use Rattle.nb_pcap.specs.Steps.{Stops}

-- HasGiven before now counts later frames file: since nothing was read these frames were given, and more may come
pub record HasGiven (before now : Option (List ℕ)) (counts later : Counts) (frames : List FrameValue) (file : FileValue) : Type 0 where
  pub got : List ℕ
  pub consumes : Consumes before now got
  pub spells : Spells Beginning got frames file.context file.room.rest
  pub counted : file.frames ≡ length frames
  pub on : file.standing ≡ Reading
  pub place_is : file.place + length file.room.rest ≡ length got
  pub kept : file.room.taken ≡ length got
  pub most : file.room.most ≡ 2 ^ 64 - 1
  pub grow : GrowTo counts later

-- HasEnded before left frames: the bytes that came are a whole file, which has these frames
pub record HasEnded (before left : Option (List ℕ)) (frames : List FrameValue) : Type 0 where
  pub bytes : List ℕ
  pub consumes : Consumes before left bytes
  pub last : Context
  pub spells : Spells Beginning bytes frames last []
  pub begun : last ≡ Beginning → ⊥
  pub at_end : IsAtEnd left

-- HasStopped before left counts later frames fault place: the bytes that came are the parts that give these frames, and a rest, which
-- begins at this byte, and of which no part is read, for this fault. The room has what is known of how much may be read: fewer than
-- 2^64 bytes
pub record HasStopped (before left : Option (List ℕ)) (counts later : Counts) (frames : List FrameValue) (fault : FileFault) (place : ℕ) : Type 0 where
  pub bytes : List ℕ
  pub consumes : Consumes before left bytes
  pub last : Context
  pub rest : List ℕ
  pub spells : Spells Beginning bytes frames last rest
  pub place_is : place + length rest ≡ length bytes
  pub room : RoomValue
  pub kept : room.taken ≡ length bytes
  pub most : room.most ≡ 2 ^ 64 - 1
  pub stops : Stops last rest left counts later room fault
