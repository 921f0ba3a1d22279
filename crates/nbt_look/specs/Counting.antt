-- How many frames there are, and what they have (our choice). Counts are numbers of 64 bits, and stay at the greatest one.
use Rattle.std.specs.Prelude.{ℕ, ◌+◌, ◌-◌, ◌^◌, Bool, Option, None, Some, cond, min, replicate, set, slice_index}
use Rattle.nb_connections.specs.declared.taken.Reason.{Reason as Lost}
use Rattle.nb_connections.specs.declared.taken.Reason.TheVariants as lost
use Rattle.nb_frames.specs.declared.reason.Reason.{Reason}
use Rattle.nb_frames.specs.declared.reason.Reason.TheVariants as reason
use Rattle.nb_traffic.specs.declared.brought.FragmentFault.{FragmentFault}
use Rattle.nb_traffic.specs.declared.brought.FragmentFault.TheVariants as fault
use Rattle.nb_traffic.specs.declared.brought.Unfinished.{Unfinished}
use Rattle.nbt_look.specs.declared.counting.Lack.{Lack}
use Rattle.nbt_look.specs.declared.counting.Lack.TheVariants as lack
use Rattle.nbt_look.specs.declared.counting.LeftOut.{LeftOut as Why}
use Rattle.nbt_look.specs.declared.counting.LeftOut.TheVariants as why
use Rattle.nbt_look.specs.declared.counting.Outcome.{Outcome}
use Rattle.nbt_look.specs.declared.counting.Outcome.TheVariants.{Packet, Malformed, LeftOut, Without}
use Rattle.nbt_look.specs.declared.counting.Counts.{Counts}

-- so many more, as far as 64 bits count
abbrev pub plus : ℕ → ℕ → ℕ
plus n m = min (n + m) (2 ^ 64 - 1)

-- one more
abbrev pub more : ℕ → ℕ
more n = plus n 1

-- no frame
abbrev pub no_counts : Counts
no_counts = record {
  frames = 0;
  of_ports = 0;
  packets = 0;
  malformed = 0;
  left_out = 0;
  by_reason = replicate 21 0;
  without = 0;
  by_lack = replicate 4 0;
}

-- the place of a reason among all
abbrev pub place_of : Why → ℕ
place_of why.Cut = 0
place_of why.BadLength = 1
place_of why.AfterGap = 2
place_of why.AfterBadHeader = 3
place_of why.NoStart = 4
place_of why.Reset = 5
place_of why.Directions = 6
place_of why.Differs = 7
place_of why.Disagree = 8
place_of why.CutFragment = 9
place_of why.TooLong = 10
place_of why.TooMany = 11
place_of why.NoRest = 12
place_of why.NoOthers = 13
place_of why.CutHeader = 14
place_of why.BadHeader = 15
place_of why.Ppp = 16
place_of why.Mpls = 17
place_of why.Llc = 18
place_of why.Tags = 19
place_of why.Link = 20

-- why bytes of a stream of TCP are left out
abbrev pub why_lost : Lost → Why
why_lost lost.Gap = why.AfterGap
why_lost lost.BadHeader = why.AfterBadHeader
why_lost lost.NoStart = why.NoStart
why_lost lost.Reset = why.Reset
why_lost lost.TooMany = why.Directions

-- why a fragment of IP is
abbrev pub why_fragment : FragmentFault → Why
why_fragment fault.Disagrees = why.Disagree
why_fragment fault.Cut = why.CutFragment
why_fragment fault.TooLong = why.TooLong
why_fragment fault.TooMany = why.TooMany

-- how often something is left out for this reason
abbrev pub count_of : Why → Counts → ℕ
count_of w c = slice_index c.by_reason (place_of w)

-- with_reason w n c: n more of what is left out for this reason
abbrev pub with_reason : Why → ℕ → Counts → Counts
with_reason w n c = record c { left_out = plus c.left_out n; by_reason = set c.by_reason (place_of w) (plus (count_of w c) n) }

-- the place of what frames without a packet have, among all of that
abbrev pub lack_place : Lack → ℕ
lack_place lack.Fragment = 0
lack_place lack.Empty = 1
lack_place lack.Part = 2
lack_place lack.Other = 3

-- how many frames without a packet have this
abbrev pub lack_count : Lack → Counts → ℕ
lack_count l c = slice_index c.by_lack (lack_place l)

-- one more of them
abbrev pub with_lack : Lack → Counts → Counts
with_lack l c = record c { without = more c.without; by_lack = set c.by_lack (lack_place l) (more (lack_count l c)) }

-- one more line, or frame without one, that counts so
abbrev pub counted : Outcome → Counts → Counts
counted Packet c = record c { packets = more c.packets }
counted Malformed c = record c { packets = more c.packets; malformed = more c.malformed }
counted (LeftOut reason) c = with_reason reason 1 c
counted (Without l) c = with_lack l c

-- the same, where there is one
abbrev pub counted_some : Option Outcome → Counts → Counts
counted_some None c = c
counted_some (Some o) c = counted o c

-- counted_frame of_ports o c: one more frame, which is of the ports or not, and counts so where it has no line
abbrev pub counted_frame : Bool → Option Outcome → Counts → Counts
counted_frame of_ports o c = counted_some o (record c { frames = more c.frames; of_ports = cond of_ports (more c.of_ports) c.of_ports })

-- the counts at the end of the capture, where these are unfinished: sessions, and packets in fragments
abbrev pub finished : Unfinished → Counts → Counts
finished u c = with_reason why.NoOthers u.fragments (with_reason why.NoRest u.sessions c)

-- how a frame counts of which nothing is read, for this reason
abbrev pub unread : Reason → Outcome
unread reason.UnknownLink = LeftOut why.Link
unread reason.NoIp = Without lack.Other
unread reason.PppOverEthernet = LeftOut why.Ppp
unread reason.Mpls = LeftOut why.Mpls
unread reason.Llc = LeftOut why.Llc
unread reason.TooManyTags = LeftOut why.Tags
unread (reason.Protocol number) = Without lack.Other
unread reason.Cut = LeftOut why.CutHeader
unread reason.Bad = LeftOut why.BadHeader
