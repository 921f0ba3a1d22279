-- The list of a capture: for each frame lines, or none, and what the lines before leave to them (our choice).
use Rattle.std.specs.Prelude.{◌≡◌, ℕ, ◌+◌, Bool, true, false, List, [], ◌∷◌, ◌++◌, Option, Some, None, cond, max, unwrap_or}
use Rattle.std.specs.Fmt.{decimal}
use Rattle.nb_pcap.specs.Frame.{FrameValue}
use Rattle.nb_traffic.specs.Brings.{Brings, unfinished_of}
use Rattle.nb_traffic.specs.Brought.{BroughtValue, PacketValue}
use Rattle.nb_traffic.specs.Follows.{Follows}
use Rattle.nb_traffic.specs.declared.brought.Unfinished.{Unfinished}
use Rattle.nb_traffic.specs.declared.traffic.Traffic.{Traffic}
use Rattle.nbt_look.specs.declared.counting.Outcome.{Outcome}
use Rattle.nbt_look.specs.declared.lister.Lister.{Lister}
use Rattle.nbt_look.specs.declared.listing.Listing.{Listing}
use Rattle.nbt_look.specs.declared.progress.Progress.{Progress}
use Rattle.nbt_look.specs.declared.asked.Asked.{Asked}
use Rattle.nbt_look.specs.declared.asked.Form.{Form}
use Rattle.nbt_look.specs.declared.asked.Form.TheVariants.{Lines, Colours, Objects, Capture}
use Rattle.nbt_look.specs.CaptureText.{capture_text}
use Rattle.nbt_look.specs.Colours.{IsColourOf}
use Rattle.nbt_look.specs.Columns.{CellTexts, first_widths, widened, line_text}
use Rattle.nbt_look.specs.Counting.{no_counts, counted, counted_frame, finished, more}
use Rattle.nbt_look.specs.Ends.{end_text, first_label, label_of, mark_in}
use Rattle.nbt_look.specs.Entries.{AreEntries, EntryValue, is_of_ports, lack_of}
use Rattle.nbt_look.specs.Objects.{IsPacketObject, moment_of}
use Rattle.nbt_look.specs.Standing.{SaysStanding, outcome_in}
use Rattle.nbt_look.specs.Times.{IsTime, first_after}
use Rattle.nbt_look.specs.Choosing.{IsWanted}
use Rattle.nbt_look.specs.Wanted.{is_enough}

-- before the first frame, where this is asked
abbrev pub nothing_listed : Asked → Listing
nothing_listed asked = record {
  asked = asked;
  first = None;
  moment = 0;
  interface = None;
  widths = first_widths;
  counts = no_counts;
  shown = 0;
}

-- begun old time brought: a frame came, with this time, which brings this
abbrev pub begun : Listing → Option ℕ → BroughtValue → Listing
begun old time brought = record old {
  first = first_after old.first time;
  counts = counted_frame (is_of_ports brought) (lack_of brought) old.counts;
}

-- something without a line, which counts so
abbrev pub passed : Listing → Outcome → Listing
passed old o = record old { counts = counted o old.counts }

-- ended u old: the capture ended, where these are unfinished; it didn't where no more lines were wanted
abbrev pub ended : Unfinished → Listing → Listing
ended u old = cond (is_enough old.asked.wanted old.shown) old (record old { counts = finished u old.counts })

-- what the interface of a frame is called
abbrev pub label_in : FrameValue → List ℕ
label_in f = label_of f.interface f.name

-- cells_of now n at label p: the cells of a line of frame n, whose time is shown so, about this packet
abbrev pub cells_of : Listing → ℕ → List ℕ → List ℕ → PacketValue → CellTexts
cells_of now n at label p = record {
  number = decimal n;
  time = at;
  source = end_text p.hosts.source p.ports.source p.service ++ mark_in now.interface label;
  target = end_text p.hosts.destination p.ports.destination p.service;
}

-- moment_at now time: the moment of a frame of this time, in milliseconds since the first one that has a time; of one without a time the
-- latest moment of a line
abbrev pub moment_at : Listing → Option ℕ → ℕ
moment_at now time = unwrap_or (moment_of now.first time) now.moment

-- listed now label time cells o: a line of this interface, at this time, with these cells came, which counts so
abbrev pub listed : Listing → List ℕ → Option ℕ → CellTexts → Outcome → Listing
listed now label time cells o = record {
  asked = now.asked;
  first = now.first;
  moment = max now.moment (moment_at now time);
  interface = Some (first_label now.interface label);
  widths = widened now.widths cells;
  counts = counted o now.counts;
  shown = more now.shown;
}

-- ---- one line

-- Shows form now cells n f e o phrase text: the text of what a line of frame n is about and counts so, with these cells and this phrase, where
-- `now` stands before it
abbrev pub Shows : Form → Listing → CellTexts → ℕ → FrameValue → EntryValue → Outcome → List ℕ → List ℕ → Type 0
Shows Lines now cells n f e o phrase text = text ≡ line_text [] (widened now.widths cells) cells phrase
Shows Colours now cells n f e o phrase text =
    (colour : List ℕ) × IsColourOf o e.packet.bytes e.packet.service colour
    × (text ≡ line_text colour (widened now.widths cells) cells phrase)
Shows Objects now cells n f e o phrase text = IsPacketObject n f e now.first cells.time phrase text
Shows (Capture layout) now cells n f e o phrase text =
    text ≡ capture_text layout now.moment (moment_at now f.time) cells e.packet o phrase

-- HasLine now at n f e o phrase new text: the text of what a line of frame n is about and counts so, with this phrase; the frame's time is
-- shown so
abbrev pub HasLine : Listing → List ℕ → ℕ → FrameValue → EntryValue → Outcome → List ℕ → Listing → List ℕ → Type 0
HasLine now at n f e o phrase new text =
    let cells = cells_of now n at (label_in f) e.packet in
    (new ≡ listed now (label_in f) f.time cells o) × Shows now.asked.form now cells n f e o phrase text

-- ListsSaid wanted now n f e phrase new text: the line of frame n about this, of which this is said, where it is wanted
abbrev pub ListsSaid : Bool → Listing → ℕ → FrameValue → EntryValue → List ℕ → Listing → List ℕ → Type 0
ListsSaid true now n f e phrase new text =
    (at : List ℕ) × IsTime now.asked.times now.first f.time at × HasLine now at n f e (outcome_in e.standing phrase) phrase new text
ListsSaid false now n f e phrase new text = (new ≡ passed now (outcome_in e.standing phrase)) × (text ≡ [])

-- ListsEntry n f e now new text: the line of frame n about this, which may be none, where `now` stands before it
pub record ListsEntry (n : ℕ) (f : FrameValue) (e : EntryValue) (now new : Listing) (text : List ℕ) : Type 0 where
  pub phrase : List ℕ
  pub says : SaysStanding e.standing f e.packet phrase
  pub wanted : Bool
  pub is_wanted : IsWanted now.asked.wanted now.shown e.packet (outcome_in e.standing phrase) wanted
  pub lists : ListsSaid wanted now n f e phrase new text

-- ListsEach n f entries now new text: the lines of frame n about these, one after another
pub data ListsEach (n : ℕ) (f : FrameValue) : List EntryValue → Listing → Listing → List ℕ → Type 0 where
  no_entry : (s : Listing) → ListsEach n f [] s s []
  one_entry : (e : EntryValue) (es : List EntryValue) (now between new : Listing) (text others : List ℕ) → ListsEntry n f e now between text
      → ListsEach n f es between new others → ListsEach n f (e ∷ es) now new (text ++ others)

-- ---- one frame

-- ListsBrought n f brought old new text: the lines of frame n, which brings this
abbrev pub ListsBrought : ℕ → FrameValue → BroughtValue → Listing → Listing → List ℕ → Type 0
ListsBrought n f brought old new text =
    (entries : List EntryValue) × AreEntries f brought entries × ListsEach n f entries (begun old f.time brought) new text

-- what the frames so far leave to those that follow: what is kept of streams and fragments, and the list
pub record SoFar : Type 0 where
  pub traffic : Traffic
  pub listing : Listing

-- the same, as it is held
abbrev pub so_far : Progress → SoFar
so_far p = record { traffic = p.traffic; listing = p.lister.listing }

-- IsBeginning w s: this stands before the first frame, where this is asked
abbrev pub IsBeginning : Asked → SoFar → Type 0
IsBeginning w s = Follows s.traffic [] × (s.listing ≡ nothing_listed w)

-- Lists n f old new text: the text of frame n in the list, which may be none, where `old` stands before it; then `new` stands
pub record Lists (n : ℕ) (f : FrameValue) (old new : SoFar) (text : List ℕ) : Type 0 where
  pub brought : BroughtValue
  pub brings : Brings old.traffic f brought new.traffic
  pub lists : ListsBrought n f brought old.listing new.listing text

-- the list at the end of the capture, after these frames
abbrev pub end_of : SoFar → Listing
end_of s = ended (unfinished_of s.traffic) s.listing

-- what is printed of the frame that came last
abbrev pub text_in : Lister → List ℕ
text_in l = l.text.items

-- Keeps old new: what the lines so far leave, the cells and the label are as they were
abbrev pub Keeps : Lister → Lister → Type 0
Keeps old new = (new.listing ≡ old.listing) × (new.cells ≡ old.cells) × (new.label ≡ old.label)

-- AddsLine n f e old new before after: the line of frame n about this, which may be none, was added to a text
abbrev pub AddsLine : ℕ → FrameValue → EntryValue → Listing → Listing → List ℕ → List ℕ → Type 0
AddsLine n f e old new before after = (text : List ℕ) × ListsEntry n f e old new text × (after ≡ before ++ text)

-- Adds n f entries old new before after: the lines of frame n about these were
abbrev pub Adds : ℕ → FrameValue → List EntryValue → Listing → Listing → List ℕ → List ℕ → Type 0
Adds n f entries old new before after = (text : List ℕ) × ListsEach n f entries old new text × (after ≡ before ++ text)

-- ---- all frames

-- ListsAll n frames old new text: these frames, of which the first is frame n, have this text, one after another; before each of them
-- fewer lines are there than are wanted at most
pub data ListsAll : ℕ → List FrameValue → SoFar → SoFar → List ℕ → Type 0 where
  none : (n : ℕ) (s : SoFar) → ListsAll n [] s s []
  one_more : (n : ℕ) (f : FrameValue) (fs : List FrameValue) (old between new : SoFar) (text others : List ℕ)
      → is_enough old.listing.asked.wanted old.listing.shown ≡ false → Lists n f old between text → ListsAll (n + 1) fs between new others
      → ListsAll n (f ∷ fs) old new (text ++ others)
