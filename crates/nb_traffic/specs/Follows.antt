-- The frames of a capture, as the fragments that are live and the segments that came.
use Rattle.std.specs.Prelude.{ℕ, ◌≡◌, List, [], ◌∷◌, ◌++◌, Bool, Option, Some, None}
use Rattle.nb_connections.specs.Directions.{Came as Segment, Knows, came_of, ends_of, opens, part_in}
use Rattle.nb_connections.specs.Reading.{Answer}
use Rattle.nb_fragments.specs.Code.Kept.{Waits, clock_of}
use Rattle.nb_fragments.specs.Live.{Came as Piece, clock_after, live_at}
use Rattle.nb_fragments.specs.Taking.{Answers, came_now, live_after}
use Rattle.nb_fragments.specs.declared.taken.Taken.{Taken}
use Rattle.nb_fragments.specs.declared.taken.Taken.TheVariants.{Whole, Kept, Again, Disagrees, LeftOut}
use Rattle.nb_frames.specs.Carried.{carried_joined}
use Rattle.nb_frames.specs.Contents.{HasContents}
use Rattle.nb_frames.specs.Payload.{whole}
use Rattle.nb_frames.specs.Services.{service_of}
use Rattle.nb_frames.specs.declared.carried.Carried.{Carried}
use Rattle.nb_frames.specs.declared.carried.Carried.TheVariants.{Udp, Tcp, Fragment, Other}
use Rattle.nb_frames.specs.declared.carried.IpFragment.{IpFragment}
use Rattle.nb_frames.specs.declared.carried.TcpSegment.{TcpSegment}
use Rattle.nb_frames.specs.declared.contents.Contents.{Contents}
use Rattle.nb_pcap.specs.Frame.{FrameValue}
use Rattle.nb_traffic.specs.declared.traffic.Traffic.{Traffic}

-- what came: what the clock of fragments shows, the fragments that are live, and all segments of port 139
pub record Past : Type 0 where
  pub clock : ℕ
  pub live : List Piece
  pub segments : List Segment

-- AddsSegment service s old new: a segment is one more, where it is of the service of a port
abbrev pub AddsSegment : Option ℕ → TcpSegment → List Segment → List Segment → Type 0
AddsSegment None s old new = new ≡ old
AddsSegment (Some service) s old new =
    (is_read : Bool) × (answer : Answer) × (new ≡ old ++ came_of (ends_of s) (opens s) (part_in s) is_read answer ∷ [])

-- AddsPacket carried old new: these are the segments after a packet of IP that carries this
abbrev pub AddsPacket : Carried → List Segment → List Segment → Type 0
AddsPacket (Udp d) old new = new ≡ old
AddsPacket (Tcp s) old new = AddsSegment (service_of (Tcp s)) s old new
AddsPacket (Fragment f) old new = new ≡ old
AddsPacket (Other reason) old new = new ≡ old

-- AddsMade taken f old new: the same after a fragment of which this is made
abbrev pub AddsMade : Taken → IpFragment → List Segment → List Segment → Type 0
AddsMade (Whole bytes) f old new = AddsPacket (carried_joined f.hosts f.protocol (whole bytes)) old new
AddsMade Kept f old new = new ≡ old
AddsMade Again f old new = new ≡ old
AddsMade Disagrees f old new = new ≡ old
AddsMade (LeftOut why) f old new = new ≡ old

-- AddsFragment f time old new taken: this came after a fragment, of a frame of this time, of which this is made
pub record AddsFragment (f : IpFragment) (time : Option ℕ) (old new : Past) (taken : Taken) : Type 0 where
  pub clock : new.clock ≡ clock_after old.clock time
  pub live : new.live ≡ live_after taken (came_now new.clock f) (live_at new.clock old.live)
  pub answer : Answers f (came_now new.clock f) (live_at new.clock old.live) taken
  pub made : AddsMade taken f old.segments new.segments

-- Adds carried time old new: this came after a frame of this time that carries this
abbrev pub Adds : Carried → Option ℕ → Past → Past → Type 0
Adds (Udp d) time old new = new ≡ old
Adds (Tcp s) time old new = (new.clock ≡ old.clock) × (new.live ≡ old.live) × AddsSegment (service_of (Tcp s)) s old.segments new.segments
Adds (Fragment f) time old new = (taken : Taken) × AddsFragment f time old new taken
Adds (Other reason) time old new = new ≡ old

-- IsPast frames past: these frames came, and so this did
pub data IsPast : List FrameValue → Past → Type 0 where
  nothing : IsPast [] (record { clock = 0; live = []; segments = [] })
  one_more : (frames : List FrameValue) (f : FrameValue) (contents : Contents) (old new : Past) → IsPast frames old
      → HasContents f.link f.bytes contents → Adds contents.carried f.time old new → IsPast (frames ++ f ∷ []) new

-- Follows traffic frames: these frames came, and what they say is kept
abbrev pub Follows : Traffic → List FrameValue → Type 0
Follows traffic frames = (past : Past) × IsPast frames past × (clock_of traffic.fragments ≡ past.clock) × Waits traffic.fragments past.live
    × Knows traffic.connections past.segments
