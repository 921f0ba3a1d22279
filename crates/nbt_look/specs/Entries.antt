-- What the lines of a frame are about: the packets that it brings, and what is left out in their place (our choice).
use Rattle.std.specs.Prelude.{◌≡◌, ℕ, ◌&&◌, Bool, true, false, not, List, [], ◌∷◌, ◌++◌, Option, None, Some, cond, drop, is_some, length, nat_eq, take}
use Rattle.nb_connections.specs.declared.taken.LeftOut.{LeftOut as Lost}
use Rattle.nb_frames.specs.declared.carried.Hosts.{Hosts}
use Rattle.nb_frames.specs.declared.carried.Ports.{Ports}
use Rattle.nb_pcap.specs.Frame.{FrameValue}
use Rattle.nb_session.specs.declared.parsing.Parsed.TheVariants.{Whole as Session}
use Rattle.nb_session.specs.Cutting.{BeginsWithNone}
use Rattle.nb_session.specs.Packet.{Packet as SessionPacket}
use Rattle.nb_session.specs.Parsing.{Parses}
use Rattle.nb_traffic.specs.declared.brought.FragmentFault.{FragmentFault}
use Rattle.nb_traffic.specs.Brought.{BroughtValue, Datagram, Fragment, NoFragment, OtherPorts, PacketValue, Segment, SegmentValue, Unread, packet_value}
use Rattle.nbt_look.specs.declared.counting.Lack.TheVariants as lack
use Rattle.nbt_look.specs.declared.counting.LeftOut.{LeftOut as Why}
use Rattle.nbt_look.specs.declared.counting.LeftOut.TheVariants as why
use Rattle.nbt_look.specs.declared.counting.Outcome.{Outcome}
use Rattle.nbt_look.specs.declared.counting.Outcome.TheVariants.{Without}
use Rattle.nbt_look.specs.declared.entries.Entry.{Entry}
use Rattle.nbt_look.specs.declared.standing.Standing.{Standing}
use Rattle.nbt_look.specs.declared.standing.Standing.TheVariants.{Whole, LeftOut}
use Rattle.nbt_look.specs.Counting.{unread, why_fragment, why_lost}
use Rattle.nbt_look.specs.Standing.{standing_of}
use Rattle.nbt_look.specs.Wanted.{is_any}

-- what a line is about: a packet, and how much of it there is, or why it is left out
pub record EntryValue : Type 0 where
  pub packet : PacketValue
  pub standing : Standing

-- the same of one that is lent
abbrev pub entry_value : Entry → EntryValue
entry_value e = record { packet = packet_value e.packet; standing = e.standing }

-- packet_entry f p: a packet that frame f brings
abbrev pub packet_entry : FrameValue → PacketValue → EntryValue
packet_entry f p = record { packet = p; standing = standing_of f p }

-- session_entry s bytes: a session packet, one of those that a segment completes
abbrev pub session_entry : SegmentValue → List ℕ → EntryValue
session_entry s bytes = record {
  packet = record { hosts = s.hosts; ports = s.ports; service = 139; bytes = bytes; wire_length = length bytes };
  standing = Whole;
}

-- lost_entry hosts ports service w count: so many bytes that are left out, or something whose bytes aren't counted, between these ends
abbrev pub lost_entry : Hosts → Ports → ℕ → Why → ℕ → EntryValue
lost_entry hosts ports service w count = record {
  packet = record { hosts = hosts; ports = ports; service = service; bytes = []; wire_length = 0 };
  standing = LeftOut w count;
}

-- the same of a fragment of IP: its ports and its service aren't known, and are 0
abbrev pub fragment_entry : Hosts → FragmentFault → EntryValue
fragment_entry hosts fault = lost_entry hosts (record { source = 0; destination = 0 }) 0 (why_fragment fault) 0

-- ---- a segment

-- lost_of s lost: bytes that are left out with a segment, where it had some or some are
abbrev pub lost_of : SegmentValue → Option Lost → Option EntryValue
lost_of s None = None
lost_of s (Some lost) =
    cond (nat_eq lost.count 0 && nat_eq s.wire_length 0) None (Some (lost_entry s.hosts s.ports 139 (why_lost lost.reason) lost.count))

-- bytes of a segment that came before with other values
abbrev pub differing_in : SegmentValue → Option EntryValue
differing_in s = cond s.differs (Some (lost_entry s.hosts s.ports 139 why.Differs 0)) None

-- what there is, as a list
abbrev pub as_list : Option EntryValue → List EntryValue
as_list None = []
as_list (Some e) = e ∷ []

-- Cuts s packets rest: these are session packets at the front of those that a segment completes, one after another, and the rest follows them
pub data Cuts (s : SegmentValue) : List EntryValue → List ℕ → Type 0 where
  none : Cuts s [] s.packets
  one_more : (packets : List EntryValue) (rest : List ℕ) (packet : SessionPacket) (used : ℕ) → Cuts s packets rest
      → Parses rest (Session packet used) → Cuts s (packets ++ session_entry s (take used rest) ∷ []) (drop used rest)

-- AreSession s packets: these are the session packets that a segment completes
abbrev pub AreSession : SegmentValue → List EntryValue → Type 0
AreSession s packets = (rest : List ℕ) × Cuts s packets rest × BeginsWithNone rest

-- ---- a frame

-- AreEntries f brought entries: these are what the lines of frame f are about, which brings this, one after another
abbrev pub AreEntries : FrameValue → BroughtValue → List EntryValue → Type 0
AreEntries f (Datagram p) entries = entries ≡ packet_entry f p ∷ []
AreEntries f (Segment s) entries = (packets : List EntryValue) × AreSession s packets
    × (entries ≡ packets ++ (as_list (lost_of s s.left_out) ++ as_list (differing_in s)))
AreEntries f (NoFragment hosts fault) entries = entries ≡ fragment_entry hosts fault ∷ []
AreEntries f _ entries = entries ≡ []

-- whether a frame brings something of the services' ports
abbrev pub is_of_ports : BroughtValue → Bool
is_of_ports (Datagram p) = true
is_of_ports (Segment s) = true
is_of_ports _ = false

-- whether a segment completes no packet, and nothing is left out with it
abbrev pub has_nothing : SegmentValue → Bool
has_nothing s = is_any s.packets && (not (is_some (lost_of s s.left_out)) && not s.differs)

-- how a frame counts that has no line, by what it brings
abbrev pub lack_of : BroughtValue → Option Outcome
lack_of (Datagram p) = None
lack_of (Segment s) = cond (has_nothing s) (Some (Without (cond (nat_eq s.wire_length 0) lack.Empty lack.Part))) None
lack_of Fragment = Some (Without lack.Fragment)
lack_of (NoFragment hosts fault) = None
lack_of OtherPorts = Some (Without lack.Other)
lack_of (Unread reason) = Some (unread reason)
