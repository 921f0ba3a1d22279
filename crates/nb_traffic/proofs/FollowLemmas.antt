-- One frame more.
use Rattle.std.proofs.Common.{ℕ, ◌≡◌, ◌∙◌, refl, sym, ap, subst, List, [], ◌∷◌, ◌++◌, Option, Some, None}
use Rattle.nb_connections.specs.Directions.{Came as Segment, Knows, came_of, ends_of, opens, part_in}
use Rattle.nb_connections.specs.declared.connections.Connections.{Connections}
use Rattle.nb_fragments.specs.Code.Kept.{Waits, clock_of}
use Rattle.nb_fragments.specs.Live.{clock_after, live_at}
use Rattle.nb_fragments.specs.Taking.{came_now, live_after}
use Rattle.nb_fragments.specs.declared.fragments.Fragments.{Fragments}
use Rattle.nb_fragments.specs.declared.taken.Taken.{Taken}
use Rattle.nb_fragments.specs.declared.taken.Taken.TheVariants.{Whole, Kept, Again, Disagrees, LeftOut}
use Rattle.nb_frames.specs.Carried.{carried_joined}
use Rattle.nb_frames.specs.Payload.{whole}
use Rattle.nb_frames.specs.Services.{service_of}
use Rattle.nb_frames.specs.declared.carried.Carried.{Carried}
use Rattle.nb_frames.specs.declared.carried.Carried.TheVariants.{Udp, Tcp, Fragment, Other}
use Rattle.nb_frames.specs.declared.carried.IpFragment.{IpFragment}
use Rattle.nb_frames.specs.declared.carried.TcpSegment.{TcpSegment}
use Rattle.nb_pcap.specs.Frame.{FrameValue}
use Rattle.nb_traffic.specs.Brings.{Brings, BringsCarried, BringsMade, BringsPacket, BringsSegment}
use Rattle.nb_traffic.specs.Brought.{BroughtValue}
use Rattle.nb_traffic.specs.Follows.{Adds, AddsMade, AddsPacket, AddsSegment, Follows, Past, one_more}
use Rattle.nb_traffic.specs.declared.traffic.Traffic.{Traffic}

-- after what adds these segments, they are known
abbrev Knows-after : (List Segment → Type 0) → Connections → Type 0
Knows-after adds new = (more : List Segment) × adds more × Knows new more

same_segments : (old new : Connections) (all : List Segment) → new ≡ old → Knows old all → Knows-after (λ more. more ≡ all) new
same_segments old new all same knows = (all, refl, subst (λ (c : Connections). Knows c all) (sym same) knows)

segment_follows : (service : Option ℕ) (s : TcpSegment) (old new : Connections) (brought : BroughtValue) (all : List Segment)
    → BringsSegment service s old brought new → Knows old all → Knows-after (AddsSegment service s all) new
segment_follows None s old new brought all b knows = same_segments old new all b.1 knows
segment_follows (Some service) s old new brought all b knows =
    let got = b.2 all knows in
    (all ++ came_of (ends_of s) (opens s) (part_in s) got.0 got.1 ∷ [], (got.0, got.1, refl), got.4)

packet_follows : (carried : Carried) (old new : Connections) (brought : BroughtValue) (all : List Segment) → BringsPacket carried old brought new
    → Knows old all → Knows-after (AddsPacket carried all) new
packet_follows (Udp d) old new brought all b knows = same_segments old new all b.1 knows
packet_follows (Tcp s) old new brought all b knows = segment_follows (service_of (Tcp s)) s old new brought all b knows
packet_follows (Fragment f) old new brought all b knows = same_segments old new all b.1 knows
packet_follows (Other reason) old new brought all b knows = same_segments old new all b.1 knows

made_follows : (taken : Taken) (f : IpFragment) (old new : Connections) (brought : BroughtValue) (all : List Segment) → BringsMade taken f old brought new
    → Knows old all → Knows-after (AddsMade taken f all) new
made_follows (Whole bytes) f old new brought all b knows = packet_follows (carried_joined f.hosts f.protocol (whole bytes)) old new brought all b knows
made_follows Kept f old new brought all b knows = same_segments old new all b.1 knows
made_follows Again f old new brought all b knows = same_segments old new all b.1 knows
made_follows Disagrees f old new brought all b knows = same_segments old new all b.1 knows
made_follows (LeftOut why) f old new brought all b knows = same_segments old new all b.1 knows

-- a frame adds to what came, and that is kept
abbrev Goes-on : (Past → Type 0) → Traffic → Type 0
Goes-on adds new = (next : Past) × adds next × (clock_of new.fragments ≡ next.clock) × Waits new.fragments next.live × Knows new.connections next.segments

same_past : (old new : Traffic) (past : Past) → new.fragments ≡ old.fragments → new.connections ≡ old.connections → clock_of old.fragments ≡ past.clock
    → Waits old.fragments past.live → Knows old.connections past.segments → Goes-on (λ next. next ≡ past) new
same_past old new past fragments connections clock waits knows = (
  past,
  refl,
  ap clock_of fragments ∙ clock,
  subst (λ (f : Fragments). Waits f past.live) (sym fragments) waits,
  subst (λ (c : Connections). Knows c past.segments) (sym connections) knows,
)

frame_follows : (carried : Carried) (time : Option ℕ) (old new : Traffic) (brought : BroughtValue) (past : Past) → BringsCarried carried time old brought new
    → clock_of old.fragments ≡ past.clock → Waits old.fragments past.live → Knows old.connections past.segments → Goes-on (Adds carried time past) new
frame_follows (Udp d) time old new brought past b clock waits knows = same_past old new past b.0 b.1.1 clock waits knows
frame_follows (Other reason) time old new brought past b clock waits knows = same_past old new past b.0 b.1.1 clock waits knows
frame_follows (Tcp s) time old new brought past b clock waits knows =
    let got = packet_follows (Tcp s) old.connections new.connections brought past.segments b.1 knows in (
      record { clock = past.clock; live = past.live; segments = got.0 },
      (refl, refl, got.1),
      ap clock_of b.0 ∙ clock,
      subst (λ (f : Fragments). Waits f past.live) (sym b.0) waits,
      got.2,
    )
frame_follows (Fragment f) time old new brought past b clock waits knows =
    let joined = b.1 in
    let got = made_follows b.0 f old.connections new.connections brought past.segments b.2 knows in
    let now = clock_of new.fragments in (
      record { clock = now; live = live_after b.0 (came_now now f) (live_at now past.live); segments = got.0 },
      (b.0, record { clock = joined.clock ∙ ap (λ n. clock_after n time) clock; live = refl; answer = joined.answer past.live waits; made = got.1 }),
      refl,
      joined.live past.live waits,
      got.2,
    )

pub follows_on : (frames : List FrameValue) (frame : FrameValue) (brought : BroughtValue) (old new : Traffic) → Follows old frames → Brings old frame brought new
    → Follows new (frames ++ frame ∷ [])
follows_on frames frame brought old new follows brings =
    let got = frame_follows brings.0.carried frame.time old new brought follows.0 brings.2 follows.2 follows.3 follows.4 in
    (got.0, one_more frames frame brings.0 follows.0 got.0 follows.1 brings.1 got.1, got.2, got.3, got.4)
