-- The lines of a frame, one after another.
use Rattle.std.proofs.Common.{◌≡◌, ◌<◌, ◌∙◌, ◌++◌, ◌∷◌, ℕ, List, [], None, Option, ap, append_assoc, arith, drop, false, length, refl, sym, subst, take, true}
use Rattle.std.proofs.lemmas.List.{append-nil, length-take-le}
use Rattle.nb_frames.specs.declared.carried.Hosts.{Hosts}
use Rattle.nb_pcap.specs.Frame.{FrameValue}
use Rattle.nb_session.specs.declared.parsing.Parsed.TheVariants.{Whole}
use Rattle.nb_session.specs.Packet.{Packet as SessionPacket}
use Rattle.nb_session.specs.Parsing.{Parsed, Parses, taken_by, whole}
use Rattle.nb_traffic.specs.declared.brought.Brought.{Brought}
use Rattle.nb_traffic.specs.declared.brought.Brought.TheVariants as lent
use Rattle.nb_traffic.specs.declared.brought.FragmentFault.{FragmentFault}
use Rattle.nb_traffic.specs.declared.brought.Packet.{Packet}
use Rattle.nb_traffic.specs.declared.brought.Segment.{Segment}
use Rattle.nb_traffic.specs.Brought.{BroughtValue, SegmentValue, brought_value, packet_value, segment_value}
use Rattle.nbt_look.specs.declared.counting.Counts.{Counts}
use Rattle.nbt_look.specs.declared.counting.Outcome.{Outcome}
use Rattle.nbt_look.specs.declared.listing.Listing.{Listing}
use Rattle.nbt_look.specs.Choosing.{IsWanted}
use Rattle.nbt_look.specs.Counting.{counted}
use Rattle.nbt_look.specs.Entries.{AreEntries, AreSession, Cuts, EntryValue, as_list, differing_in, fragment_entry, lost_of, none, one_more, packet_entry, session_entry}
use Rattle.nbt_look.specs.Listing.{Adds, AddsLine, HasLine, ListsBrought, ListsEach, begun, no_entry, one_entry}
use Rattle.nbt_look.specs.Standing.{SaysStanding, outcome_in}
use Rattle.nbt_look.specs.Times.{IsTime}

-- something that isn't wanted
pub adds_none : (n : ℕ) (f : FrameValue) (old : Listing) (before : List ℕ) → Adds n f [] old old before before
adds_none n f old before = ([], no_entry old, sym (append-nil before))

pub passes : (n : ℕ) (f : FrameValue) (e : EntryValue) (old : Listing) (counts : Counts) (text phrase : List ℕ) (o : Outcome)
    → SaysStanding e.standing f e.packet phrase → o ≡ outcome_in e.standing phrase → IsWanted old.asked.wanted old.shown e.packet o false
    → counts ≡ counted o old.counts → AddsLine n f e old (record old { counts = counts }) text text
passes n f e old counts text phrase o says same unwanted is = (
  [],
  record {
    phrase = phrase;
    says = says;
    wanted = false;
    is_wanted = rw same at unwanted;
    lists = (ap (λ (k : Counts). record old { counts = k }) (rw same at is), refl);
  },
  sym (append-nil text),
)

-- something that is
pub lists_line : (n : ℕ) (f : FrameValue) (e : EntryValue) (old new : Listing) (before after phrase : List ℕ) (o : Outcome)
    → SaysStanding e.standing f e.packet phrase → o ≡ outcome_in e.standing phrase → IsWanted old.asked.wanted old.shown e.packet o true
    → (at : List ℕ) × (text : List ℕ) × IsTime old.asked.times old.first f.time at × HasLine old at n f e o phrase new text × (after ≡ before ++ text)
    → AddsLine n f e old new before after
lists_line n f e old new before after phrase o says same wanted (at, text, time, line, added) = (
  text,
  record {
    phrase = phrase;
    says = says;
    wanted = true;
    is_wanted = rw same at wanted;
    lists = (at, time, subst (λ (x : Outcome). HasLine old at n f e x phrase new text) same line);
  },
  added,
)

-- the lines of some entries, and then of others
each_more : (n : ℕ) (f : FrameValue) (es fs : List EntryValue) (old mid new : Listing) (s t : List ℕ) → ListsEach n f es old mid s
    → ListsEach n f fs mid new t → ListsEach n f (es ++ fs) old new (s ++ t)
each_more n f _ fs _ _ new _ t (no_entry same) later = later
each_more n f _ fs _ mid new _ t (one_entry e es now between _ text others first rest) later =
    subst (λ (x : List ℕ). ListsEach n f (e ∷ (es ++ fs)) now new x) (sym (append_assoc text others t))
    (one_entry e (es ++ fs) now between new text (others ++ t) first (each_more n f es fs between mid new others t rest later))

pub adds_one : (n : ℕ) (f : FrameValue) (e : EntryValue) (old new : Listing) (before after : List ℕ) → AddsLine n f e old new before after
    → Adds n f (e ∷ []) old new before after
adds_one n f e old new before after (text, lists, is) = (
  text ++ [],
  one_entry e [] old new new text [] lists (no_entry new),
  is ∙ ap (λ (t : List ℕ). before ++ t) (sym (append-nil text)),
)

pub adds_both : (n : ℕ) (f : FrameValue) (es fs : List EntryValue) (old mid new : Listing) (before between after : List ℕ)
    → Adds n f es old mid before between → Adds n f fs mid new between after → Adds n f (es ++ fs) old new before after
adds_both n f es fs old mid new before between after (s, first, is) (t, second, was) = (
  s ++ t,
  each_more n f es fs old mid new s t first second,
  was ∙ ap (λ (x : List ℕ). x ++ t) is ∙ append_assoc before s t,
)

-- ---- a segment

-- IsAdding n f s old now before after rest: the lines of some session packets of a segment were added, and the rest follows them
abbrev pub IsAdding : ℕ → FrameValue → SegmentValue → Listing → Listing → List ℕ → List ℕ → List ℕ → Type 0
IsAdding n f s old now before after rest = (packets : List EntryValue) × Cuts s packets rest × Adds n f packets old now before after

pub none_added : (n : ℕ) (f : FrameValue) (s : SegmentValue) (old : Listing) (before : List ℕ) → IsAdding n f s old old before before s.packets
none_added n f s old before = ([], none, adds_none n f old before)

pub one_added : (n : ℕ) (f : FrameValue) (s : SegmentValue) (old mid new : Listing) (before between after rest left : List ℕ) (packet : SessionPacket) (used : ℕ)
    → (e : EntryValue) → IsAdding n f s old mid before between rest → Parses rest (Whole packet used) → e ≡ session_entry s (take used rest)
    → left ≡ drop used rest → AddsLine n f e mid new between after → IsAdding n f s old new before after left
one_added n f s old mid new before between after rest left packet used e (packets, cuts, adds) stands about is added =
    rw is (
      packets ++ session_entry s (take used rest) ∷ [],
      one_more packets rest packet used cuts stands,
      adds_both n f packets (session_entry s (take used rest) ∷ []) old mid new before between after adds
          (adds_one n f (session_entry s (take used rest)) mid new between after (rw about at added)),
    )

-- a packet takes up some bytes
pub takes_some : (bytes : List ℕ) (packet : SessionPacket) (used : ℕ) → Parses bytes (Whole packet used) → 0 < used
takes_some bytes packet used (whole p n fits is) =
    let exact = ap length is.exact in
    let size = length-take-le used bytes fits in
    omega (arith, exact, size)

pub all_added : (n : ℕ) (f : FrameValue) (s : SegmentValue) (old now : Listing) (before after rest : List ℕ) (parsed : Parsed)
    → IsAdding n f s old now before after rest → ((other : Parsed) → Parses rest other → parsed ≡ other) → taken_by parsed ≡ None
    → (packets : List EntryValue) × AreSession s packets × Adds n f packets old now before after
all_added n f s old now before after rest parsed (packets, cuts, adds) only nothing =
    (packets, (rest, cuts, λ packet used stands. absurd (cc (nothing, ap taken_by (only (Whole packet used) stands)))), adds)

-- ---- a frame

brought_listed : (n : ℕ) (f : FrameValue) (brought : BroughtValue) (old mid new : Listing) (before after : List ℕ) (entries : List EntryValue)
    → mid ≡ begun old f.time brought → before ≡ [] → AreEntries f brought entries → Adds n f entries mid new before after
    → ListsBrought n f brought old new after
brought_listed n f brought old mid new before after entries is empty are (text, lists, added) = (
  entries,
  are,
  subst (λ (t : List ℕ). ListsEach n f entries (begun old f.time brought) new t) (sym (added ∙ ap (λ (x : List ℕ). x ++ text) empty))
      (subst (λ (l : Listing). ListsEach n f entries l new text) is lists),
)

pub datagram_listed : (n : ℕ) (f : FrameValue) (brought : Brought) (p : Packet) (e : EntryValue) (old mid new : Listing) (before after : List ℕ)
    → brought ≡ lent.Datagram p → mid ≡ begun old f.time (brought_value brought) → before ≡ [] → e ≡ packet_entry f (packet_value p)
    → AddsLine n f e mid new before after → ListsBrought n f (brought_value brought) old new after
datagram_listed n f brought p e old mid new before after same is empty about added =
    rw same (brought_listed n f (brought_value (lent.Datagram p)) old mid new before after (e ∷ []) (rw same at is) empty
    (ap (λ (x : EntryValue). x ∷ []) about) (adds_one n f e mid new before after added))

pub fragment_listed : (n : ℕ) (f : FrameValue) (brought : Brought) (hosts : Hosts) (fault : FragmentFault) (e : EntryValue) (old mid new : Listing) (before after : List ℕ)
    → brought ≡ lent.NoFragment hosts fault → mid ≡ begun old f.time (brought_value brought) → before ≡ [] → e ≡ fragment_entry hosts fault
    → AddsLine n f e mid new before after → ListsBrought n f (brought_value brought) old new after
fragment_listed n f brought hosts fault e old mid new before after same is empty about added =
    rw same (brought_listed n f (brought_value (lent.NoFragment hosts fault)) old mid new before after (e ∷ []) (rw same at is) empty
    (ap (λ (x : EntryValue). x ∷ []) about) (adds_one n f e mid new before after added))

pub segment_listed : (n : ℕ) (f : FrameValue) (brought : Brought) (lends : Segment) (old mid new : Listing) (before after : List ℕ) → brought ≡ lent.Segment lends
    → mid ≡ begun old f.time (brought_value brought) → before ≡ [] → (packets : List EntryValue) × AreSession (segment_value lends) packets
    × Adds n f (packets ++ (as_list (lost_of (segment_value lends) lends.left_out) ++ as_list (differing_in (segment_value lends)))) mid new before after
    → ListsBrought n f (brought_value brought) old new after
segment_listed n f brought lends old mid new before after same is empty (packets, are, adds) =
    let s = segment_value lends in
    let entries = packets ++ (as_list (lost_of s s.left_out) ++ as_list (differing_in s)) in
    rw same (brought_listed n f (brought_value (lent.Segment lends)) old mid new before after entries (rw same at is) empty (packets, are, refl) adds)

pub nothing_listed : (n : ℕ) (f : FrameValue) (brought : BroughtValue) (old new : Listing) (after : List ℕ) → AreEntries f brought []
    → new ≡ begun old f.time brought → after ≡ [] → ListsBrought n f brought old new after
nothing_listed n f brought old new after are is empty =
    brought_listed n f brought old new new after after [] is empty are (adds_none n f new after)
