-- Packets as JSON objects (our choice): what the frame is, and then what its payload says, as `nbt show --json` does.
use Rattle.std.specs.Prelude.{◌≡◌, ℕ, ◌-◌, ◌/◌, Bool, true, false, List, [], ◌∷◌, ◌++◌, codes, cond, drop, flat_map, length, nat_eq, take, Option, Some, None}
use Rattle.std.specs.Net.Text.{ip_text}
use Rattle.nb_frames.specs.declared.contents.Mac.{Mac}
use Rattle.nb_frames.specs.Link.{link_of, receiver_of, sender_of, vlans_of}
use Rattle.nb_pcap.specs.Frame.{FrameValue}
use Rattle.nb_streams.specs.Hexadecimal.{digits_of, digits_text}
use Rattle.nb_telling.specs.Telling.{Begins, Ends, Field, Known, Number, Part, PartEnds, Text}
use Rattle.nb_telling.specs.ObjectLines.{IsObject}
use Rattle.nb_text.specs.TellsFront.{TellsFront}
use Rattle.nb_traffic.specs.Brought.{PacketValue}
use Rattle.nbt_look.specs.declared.counting.LeftOut.{LeftOut as Why}
use Rattle.nbt_look.specs.declared.counting.LeftOut.TheVariants as why
use Rattle.nbt_look.specs.declared.standing.Standing.{Standing}
use Rattle.nbt_look.specs.declared.standing.Standing.TheVariants.{Whole, Cut, LeftOut}
use Rattle.nbt_look.specs.Bare.{bare_tag}
use Rattle.nbt_look.specs.Ends.{is_no_name, shown_byte}
use Rattle.nbt_look.specs.Entries.{EntryValue}
use Rattle.nbt_look.specs.Totals.{words_of}

-- nothing is known under this name
abbrev pub unknown : List ℕ → Field
unknown name = Known (bare_tag name) None

-- ---- the frame

-- time_field at shown: the time of a frame, which is shown so, where it has one
abbrev pub time_field : Option ℕ → List ℕ → Field
time_field None shown = unknown (codes "time")
time_field (Some at) shown = Text (bare_tag (codes "time")) shown

-- a port, of which 0 is none (RFC 768; of fragments of IP, which tell none, our choice)
abbrev pub known_port : ℕ → Option ℕ
known_port port = cond (nat_eq port 0) None (Some port)

-- from where and to where a packet goes
abbrev pub end_fields : PacketValue → List Field
end_fields p =
    Text (bare_tag (codes "from")) (ip_text p.hosts.source) ∷ Text (bare_tag (codes "to")) (ip_text p.hosts.destination)
    ∷ Known (bare_tag (codes "source_port")) (known_port p.ports.source) ∷ Known (bare_tag (codes "target_port")) (known_port p.ports.destination) ∷ []

-- the name of an interface, where it has one
abbrev pub interface_field : Option (List ℕ) → Field
interface_field None = unknown (codes "interface")
interface_field (Some name) =
    cond (is_no_name name) (unknown (codes "interface")) (Text (bare_tag (codes "interface")) (flat_map shown_byte name))

-- a byte of a hardware address after another one: its digits after a colon
abbrev pub colon_byte : ℕ → List ℕ
colon_byte byte = codes ":" ++ digits_of byte

-- a hardware address: the digits of its bytes, with colons between them
abbrev pub mac_text : List ℕ → List ℕ
mac_text octets = digits_text (take 1 octets) ++ flat_map colon_byte (drop 1 octets)

-- mac_field name mac: one under this name, where there is one
abbrev pub mac_field : List ℕ → Option Mac → Field
mac_field name None = unknown name
mac_field name (Some mac) = Text (bare_tag name) (mac_text mac.octets)

-- the identifier of a VLAN
abbrev pub vlan_fields : ℕ → List Field
vlan_fields id = Part [] ∷ Number (bare_tag (codes "id")) id ∷ PartEnds ∷ []

-- the VLANs that a frame is tagged with
abbrev pub vlans_fields : List ℕ → List Field
vlans_fields ids = Begins (codes "vlans") ∷ (flat_map vlan_fields ids ++ Ends ∷ [])

-- what the link layer of a frame says
abbrev pub link_fields : FrameValue → List Field
link_fields f =
    vlans_fields (vlans_of (link_of f.link) f.bytes)
    ++ mac_field (codes "from_mac") (sender_of (link_of f.link) f.bytes) ∷ mac_field (codes "to_mac") (receiver_of (link_of f.link) f.bytes) ∷ []

-- how long a frame was, and how many bytes of it are captured
abbrev pub size_fields : FrameValue → List Field
size_fields f = Number (bare_tag (codes "size")) f.original ∷ Number (bare_tag (codes "captured")) (length f.bytes) ∷ []

-- column_fields n f shown p: what the columns of a line have: of frame n its number, its time, which is shown so, its ends and its interface
abbrev pub column_fields : ℕ → FrameValue → List ℕ → PacketValue → List Field
column_fields n f shown p =
    Number (bare_tag (codes "frame")) n ∷ time_field f.time shown ∷ (end_fields p ++ interface_field f.name ∷ [])

-- frame_fields n f shown p: frame n, whose time is shown so, and which brings this packet
abbrev pub frame_fields : ℕ → FrameValue → List ℕ → PacketValue → List Field
frame_fields n f shown p = column_fields n f shown p ++ (link_fields f ++ size_fields f)

-- ---- the packet

-- moment_of first at: how many thousandths of a second passed since the first frame that has a time, 0 before it
abbrev pub moment_of : Option ℕ → Option ℕ → Option ℕ
moment_of None at = None
moment_of (Some first) None = None
moment_of (Some first) (Some at) = Some ((at - first) / 1_000_000)

-- arrival_fields port moment phrase: the port of the service, the moment, and the phrase
abbrev pub arrival_fields : ℕ → Option ℕ → List ℕ → List Field
arrival_fields port moment phrase =
    Known (bare_tag (codes "port")) (known_port port) ∷ Known (bare_tag (codes "moment")) moment ∷ Text (bare_tag (codes "brief")) phrase ∷ []

-- head_fields n f p first shown phrase: what an object of frame n begins with
abbrev pub head_fields : ℕ → FrameValue → PacketValue → Option ℕ → List ℕ → List ℕ → List Field
head_fields n f p first shown phrase = frame_fields n f shown p ++ arrival_fields p.service (moment_of first f.time) phrase

-- why something is left out
abbrev pub left_out_field : Why → Field
left_out_field reason = Text (bare_tag (codes "left_out")) (words_of reason)

-- how many bytes a packet had that is cut
abbrev pub cut_field : PacketValue → Field
cut_field p = Number (bare_tag (codes "cut")) p.wire_length

-- TellsCut is_empty p fields: these are the fields of a packet that the snap length cut, of which no byte is held or some are
abbrev pub TellsCut : Bool → PacketValue → List Field → Type 0
TellsCut true p fields = fields ≡ left_out_field why.Cut ∷ []
TellsCut false p fields = (more : List Field) × TellsFront p.bytes p.service more × (fields ≡ cut_field p ∷ more)

-- TellsStanding standing p fields: these are the fields of a packet that stands so
abbrev pub TellsStanding : Standing → PacketValue → List Field → Type 0
TellsStanding Whole p fields = TellsFront p.bytes p.service fields
TellsStanding Cut p fields = TellsCut (nat_eq (length p.bytes) 0) p fields
TellsStanding (LeftOut w count) p fields = fields ≡ left_out_field w ∷ []

-- IsPacketObject n f e first shown phrase text: the object of what a line of frame n is about, as a line
pub record IsPacketObject (n : ℕ) (f : FrameValue) (e : EntryValue) (first : Option ℕ) (shown phrase text : List ℕ) : Type 0 where
  pub fields : List Field
  pub tells : TellsStanding e.standing e.packet fields
  pub object : IsObject (head_fields n f e.packet first shown phrase ++ fields) text
