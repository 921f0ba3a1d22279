-- Files that are read side by side, each as far as its next frame (our choice).
use Rattle.std.specs.Prelude.{◌≡◌, ◌<◌, ◌+◌, ◌-◌, ◌^◌, ◌++◌, ◌∷◌, ℕ, true, false, List, [], length, slice_get, Option, Some, None, cond, Result, Ok, Err}
use Rattle.std.specs.Io.KnownBytes.{Consumes, IsAtEnd}
use Rattle.nb_streams.specs.Counted.{Counts as Calls, no_calls}
use Rattle.nb_streams.specs.Devices.{GrowTo}
use Rattle.nb_streams.specs.Room.{RoomValue}
use Rattle.nb_pcap.specs.declared.context.Context.{Context}
use Rattle.nb_pcap.specs.declared.context.Context.TheVariants.{Beginning}
use Rattle.nb_pcap.specs.declared.fault.FileFault.{FileFault}
use Rattle.nb_pcap.specs.declared.file_reading.Standing.TheVariants.{Reading}
use Rattle.nb_pcap.specs.File.{Spells}
use Rattle.nb_pcap.specs.Frame.{FrameValue}
use Rattle.nb_pcap.specs.Reading.{FileValue, Numbered, ReadsFrame, last_of, nothing_read}
use Rattle.nb_pcap.specs.Steps.{Stops}
use Rattle.nbt_look.specs.declared.sources.Ending.TheVariants.{Whole, Stopped}
use Rattle.nbt_look.specs.declared.sources.Waiting.{Waiting}
use Rattle.nbt_look.specs.declared.sources.Waiting.TheVariants.{Unread, Frame, Ended}
use Rattle.nbt_look.specs.Merging.{comes_first}

-- a file that is read: what is left of its bytes, where that is known, the calls for them, its room, and what it has to give next
pub record SourceValue : Type 0 where
  pub known : Option (List ℕ)
  pub calls : Calls
  pub file : FileValue
  pub waiting : Waiting

-- one with these bytes, of which nothing was read
abbrev pub unread : Option (List ℕ) → SourceValue
unread known = record { known = known; calls = no_calls; file = nothing_read; waiting = Unread }

-- the same whose frame was given
abbrev pub given : SourceValue → SourceValue
given s = record { known = s.known; calls = s.calls; file = s.file; waiting = Unread }

-- ---- one step

-- what a file has to give, after this answer for its next frame
abbrev pub waiting_after : Result (Option Numbered) FileFault → FileValue → Waiting
waiting_after (Ok (Some found)) file = Frame found.frame.time
waiting_after (Ok None) file = Ended Whole
waiting_after (Err why) file = Ended (Stopped why file.frames file.place)

-- FillsFrom waiting old new: the next frame is read, where it isn't known what the file has to give
abbrev pub FillsFrom : Waiting → SourceValue → SourceValue → Type 0
FillsFrom Unread old new =
    (result : Result (Option Numbered) FileFault) × ReadsFrame old.file old.known new.known old.calls new.calls result new.file
    × (new.waiting ≡ waiting_after result new.file)
FillsFrom (Frame time) old new = new ≡ old
FillsFrom (Ended ending) old new = new ≡ old

-- the same of what it has to give now
abbrev pub Fills : SourceValue → SourceValue → Type 0
Fills old new = FillsFrom old.waiting old new

-- FillsAll olds news: the same of each file
abbrev pub FillsAll : List SourceValue → List SourceValue → Type 0
FillsAll olds news =
    (i : ℕ) (old new : SourceValue) → slice_get olds i ≡ Some old → slice_get news i ≡ Some new → Fills old new

-- ---- whose turn it is

-- the time of the frame that a file has to give, where it has one
abbrev pub time_in : Waiting → Option (Option ℕ)
time_in Unread = None
time_in (Frame time) = Some time
time_in (Ended ending) = None

-- the same at a place where there may be no file
abbrev pub time_of : Option SourceValue → Option (Option ℕ)
time_of None = None
time_of (Some s) = time_in s.waiting

-- IsFirst sources at: of the frames that files have to give, that of the file at this place comes first
pub record IsFirst (sources : List SourceValue) (at : ℕ) : Type 0 where
  pub time : Option ℕ
  pub stands : time_of (slice_get sources at) ≡ Some time
  pub earlier : (i : ℕ) (other : Option ℕ) → i < at → time_of (slice_get sources i) ≡ Some other → comes_first other time ≡ false
  pub later : (i : ℕ) (other : Option ℕ) → at < i → time_of (slice_get sources i) ≡ Some other → comes_first time other ≡ true

-- earlier_of first at time: the place and the time of the frame that comes first, where this one did so far, and a file that was given later, at
-- this place, has one of this time to give
abbrev pub earlier_of : Option (ℕ × Option ℕ) → ℕ → Option (Option ℕ) → Option (ℕ × Option ℕ)
earlier_of first at None = first
earlier_of None at (Some time) = Some (at, time)
earlier_of (Some first) at (Some time) = cond (comes_first first.1 time) (Some first) (Some (at, time))

-- no file has one
abbrev pub NoneFirst : List SourceValue → Type 0
NoneFirst sources = (i : ℕ) → time_of (slice_get sources i) ≡ None

-- ---- what was read of a file

-- IsOn file got frames: these bytes were read, as parts that give these frames and what the room holds
pub record IsOn (file : FileValue) (got : List ℕ) (frames : List FrameValue) : Type 0 where
  pub spells : Spells Beginning got frames file.context file.room.rest
  pub counted : file.frames ≡ length frames
  pub on : file.standing ≡ Reading
  pub place_is : file.place + length file.room.rest ≡ length got
  pub kept : file.room.taken ≡ length got
  pub most : file.room.most ≡ 2 ^ 64 - 1

-- IsWholeFile got left frames: these bytes are a whole file, which gives these frames
pub record IsWholeFile (got : List ℕ) (left : Option (List ℕ)) (frames : List FrameValue) : Type 0 where
  pub last : Context
  pub spells : Spells Beginning got frames last []
  pub begun : last ≡ Beginning → ⊥
  pub at_end : IsAtEnd left

-- IsStoppedFile got left calls later frames fault n place: these bytes are parts that give these frames, so many, and a rest, which begins at
-- this byte, and of which no part is read, for this fault. The room has what is known of how much may be read: fewer than 2^64 bytes
pub record IsStoppedFile (got : List ℕ) (left : Option (List ℕ)) (calls later : Calls) (frames : List FrameValue) (fault : FileFault) (n place : ℕ) : Type 0 where
  pub last : Context
  pub rest : List ℕ
  pub spells : Spells Beginning got frames last rest
  pub number_is : n ≡ length frames
  pub place_is : place + length rest ≡ length got
  pub room : RoomValue
  pub kept : room.taken ≡ length got
  pub most : room.most ≡ 2 ^ 64 - 1
  pub stops : Stops last rest left calls later room fault

-- the frame that was given last, if there was one
abbrev pub last_given : Option Numbered → List FrameValue
last_given None = []
last_given (Some found) = found.frame ∷ []

-- the frame that a file has to give, if it has one
abbrev pub held_in : Waiting → FileValue → List FrameValue
held_in Unread file = []
held_in (Frame time) file = last_given (last_of file)
held_in (Ended ending) file = []

-- the same at a place where there may be no file
abbrev pub held_of : Option SourceValue → List FrameValue
held_of None = []
held_of (Some s) = held_in s.waiting s.file

-- ReadAs waiting calls new got frames: these bytes were read, and gave these frames and that which the file has to give
abbrev pub ReadAs : Waiting → Calls → SourceValue → List ℕ → List FrameValue → Type 0
ReadAs Unread calls new got frames = IsOn new.file got frames
ReadAs (Frame time) calls new got frames =
    (found : Numbered) × (last_of new.file ≡ Some found) × (time ≡ found.frame.time) × IsOn new.file got (frames ++ found.frame ∷ [])
ReadAs (Ended Whole) calls new got frames = IsWholeFile got new.known frames
ReadAs (Ended (Stopped fault n place)) calls new got frames = IsStoppedFile got new.known calls new.calls frames fault n place

-- IsRead old new frames: what was read of a file: it gave these frames, and has given all but the one that it has to give
pub record IsRead (old new : SourceValue) (frames : List FrameValue) : Type 0 where
  pub got : List ℕ
  pub consumes : Consumes old.known new.known got
  pub grow : GrowTo old.calls new.calls
  pub reads : ReadAs new.waiting old.calls new got frames

-- AreRead olds news frames: the same of each file
abbrev pub AreRead : List SourceValue → List SourceValue → (ℕ → List FrameValue) → Type 0
AreRead olds news frames =
    (i : ℕ) (old new : SourceValue) → slice_get olds i ≡ Some old → slice_get news i ≡ Some new → IsRead old new (frames i)
