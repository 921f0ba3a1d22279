-- What is printed of capture files: the list of their frames by time, as far as they can be read, and then the counts (our choice).
use Rattle.std.specs.Prelude.{◌≡◌, ◌⊎◌, ◌-◌, ◌^◌, ◌++◌, ℕ, true, List, [], length, slice_get, Option, Some, None, Result, Ok, Err}
use Rattle.std.specs.Io.KnownBytes.{Appends, Keeps}
use Rattle.nb_streams.specs.Counted.{Counts as Calls}
use Rattle.nb_streams.specs.Devices.{AppendsFront, GrowTo, ShowsWriteFault}
use Rattle.nb_pcap.specs.Frame.{FrameValue}
use Rattle.nbt_look.specs.declared.printing.PrintFault.{PrintFault}
use Rattle.nbt_look.specs.declared.printing.PrintFault.TheVariants.{Write, NoMemory}
use Rattle.nbt_look.specs.declared.sources.Waiting.{Waiting}
use Rattle.nbt_look.specs.declared.sources.Waiting.TheVariants.{Unread, Frame, Ended}
use Rattle.nbt_look.specs.declared.listing.Listing.{Listing}
use Rattle.nbt_look.specs.declared.asked.Asked.{Asked}
use Rattle.nbt_look.specs.Listing.{IsBeginning, Lists, ListsAll, SoFar, end_of}
use Rattle.nbt_look.specs.Merging.{Merges, with_more}
use Rattle.nbt_look.specs.Sources.{AreRead, SourceValue, given, held_of, unread}
use Rattle.nbt_look.specs.Totals.{last_text}
use Rattle.nbt_look.specs.Wanted.{is_enough}

-- nothing was read of these files
abbrev pub AreUnread : List SourceValue → Type 0
AreUnread sources = (i : ℕ) (s : SourceValue) → slice_get sources i ≡ Some s → s ≡ unread s.known

-- MayGive waiting more: these may be the frames that a file has beside those that were read: none where it was read to its end
abbrev pub MayGive : Waiting → List FrameValue → Type 0
MayGive Unread more = Unit
MayGive (Frame time) more = Unit
MayGive (Ended ending) more = more ≡ []

-- the same at a place where there may be no file
abbrev pub MayGiveOf : Option SourceValue → List FrameValue → Type 0
MayGiveOf None more = more ≡ []
MayGiveOf (Some s) more = MayGive s.waiting more

-- the frames that the files have to give
abbrev pub held : List SourceValue → ℕ → List FrameValue
held sources i = held_of (slice_get sources i)

-- MergesOn sources frames merged: these are the first frames of the merge, whatever frames the files have beside those that were read
abbrev pub MergesOn : List SourceValue → (ℕ → List FrameValue) → List FrameValue → Type 0
MergesOn sources frames merged =
    (more : ℕ → List FrameValue) → ((i : ℕ) → MayGiveOf (slice_get sources i) (more i))
    → Merges (with_more frames (with_more (held sources) more)) merged (with_more (held sources) more)

-- AreListed w olds news new text merged: these frames, the first of the merge of what was read of the files, have this text, and `new` stands
pub record AreListed (w : Asked) (olds news : List SourceValue) (new : SoFar) (text : List ℕ) (merged : List FrameValue) : Type 0 where
  pub frames : ℕ → List FrameValue
  pub reads : AreRead olds news frames
  pub merges : MergesOn news frames merged
  pub start : SoFar
  pub begins : IsBeginning w start
  pub lists : ListsAll 1 merged start new text

-- the file was read to its end
abbrev pub HasEnded : Waiting → Type 0
HasEnded Unread = ⊥
HasEnded (Frame time) = ⊥
HasEnded (Ended ending) = Unit

-- AllEnded sources: each file was
abbrev pub AllEnded : List SourceValue → Type 0
AllEnded sources = (i : ℕ) (s : SourceValue) → slice_get sources i ≡ Some s → HasEnded s.waiting

-- IsDone news new merged: all files are at their ends, or there are as many lines as are wanted, or as many frames as 64 bits count
abbrev pub IsDone : List SourceValue → SoFar → List FrameValue → Type 0
IsDone news new merged = AllEnded news ⊎ ((is_enough new.listing.asked.wanted new.listing.shown ≡ true) ⊎ (length merged ≡ 2 ^ 64 - 1))

-- ---- one frame

-- GivenAt result old new: the file has given its frame, but for one of which no text was made
abbrev pub GivenAt : Result Unit PrintFault → SourceValue → SourceValue → Type 0
GivenAt (Ok done) old new = new ≡ given old
GivenAt (Err Write) old new = new ≡ given old
GivenAt (Err NoMemory) old new = new ≡ old

-- PrintsFrame n f old new before after writes written result: what was printed of frame n
abbrev pub PrintsFrame : ℕ → FrameValue → SoFar → SoFar → Option (List ℕ) → Option (List ℕ) → Calls → Calls → Result Unit PrintFault → Type 0
PrintsFrame n f old new before after writes written (Ok done) =
    (text : List ℕ) × Lists n f old new text × Appends before after text × GrowTo writes written
PrintsFrame n f old new before after writes written (Err Write) =
    (text : List ℕ) × Lists n f old new text × AppendsFront before after text × ShowsWriteFault writes written
PrintsFrame n f old new before after writes written (Err NoMemory) = Keeps before after

-- ---- the list

-- PrintsList w olds news before after writes written new result: what was printed of the list of these files: at a fault of a write a front
-- of the lines of some first frames, where memory ran out the lines of some first frames
abbrev pub PrintsList : Asked → List SourceValue → List SourceValue → Option (List ℕ) → Option (List ℕ) → Calls → Calls → SoFar → Result Unit PrintFault → Type 0
PrintsList w olds news before after writes written new (Ok done) =
    (text : List ℕ) × (merged : List FrameValue) × AreListed w olds news new text merged × IsDone news new merged
    × Appends before after text × GrowTo writes written
PrintsList w olds news before after writes written new (Err Write) =
    (s : SoFar) × (text : List ℕ) × (merged : List FrameValue) × AreListed w olds news s text merged
    × AppendsFront before after text × ShowsWriteFault writes written
PrintsList w olds news before after writes written new (Err NoMemory) =
    (s : SoFar) × (text : List ℕ) × (merged : List FrameValue) × AreListed w olds news s text merged × Appends before after text

-- ---- the list and the last lines

-- PrintsLast listing before after writes written result: what was printed of the last lines after this list
abbrev pub PrintsLast : Listing → Option (List ℕ) → Option (List ℕ) → Calls → Calls → Result Unit PrintFault → Type 0
PrintsLast listing before after writes written (Ok done) = Appends before after (last_text listing)
PrintsLast listing before after writes written (Err Write) =
    AppendsFront before after (last_text listing) × ShowsWriteFault writes written
PrintsLast listing before after writes written (Err NoMemory) = Keeps before after

-- Prints w olds news before after writes written result: what was printed of these files
abbrev pub Prints : Asked → List SourceValue → List SourceValue → Option (List ℕ) → Option (List ℕ) → Calls → Calls → Result Unit PrintFault → Type 0
Prints w olds news before after writes written (Ok done) =
    (new : SoFar) × (text : List ℕ) × (merged : List FrameValue) × AreListed w olds news new text merged × IsDone news new merged
    × Appends before after (text ++ last_text (end_of new))
Prints w olds news before after writes written (Err Write) =
    (s : SoFar) × (text : List ℕ) × (merged : List FrameValue) × AreListed w olds news s text merged
    × (AppendsFront before after text ⊎ (IsDone news s merged × AppendsFront before after (text ++ last_text (end_of s))))
    × ShowsWriteFault writes written
Prints w olds news before after writes written (Err NoMemory) =
    (s : SoFar) × (text : List ℕ) × (merged : List FrameValue) × AreListed w olds news s text merged × Appends before after text
