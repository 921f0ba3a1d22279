-- Sections of pcapng (draft-ietf-opsawg-pcapng): the interfaces that a section describes, and its packets.
--
-- The body of an Interface Description has LINKTYPE 2, 2 of no account, the most captured bytes of a frame 4, and options. That of
-- an Enhanced Packet has the number of its interface in the section 4, the upper half of its time 4, the lower 4, how many bytes
-- were captured 4, how many the frame had 4, the captured bytes, what pads them, and options; that of an obsolete Packet the same,
-- but for the number of its interface 2, and 2 of no account. A Simple Packet is of the section's first interface, and has how
-- many bytes the frame had 4, and as many of them as that interface allows. Places count from the block's first byte.
use Rattle.std.specs.Prelude.{◌≡◌, ℕ, ◌+◌, ◌-◌, ◌*◌, ◌^◌, ◌++◌, ◌∷◌, [], cond, min, nat_eq, nat_lt, nat_le, List, take, drop, length, slice_get, Option, Some, None, Result, Ok, Err, option_map}
use Rattle.std.specs.Int.{w16, w32}
use Rattle.nb_pcap.specs.declared.block.BlockKind.{BlockKind}
use Rattle.nb_pcap.specs.declared.block.BlockKind.TheVariants as kind
use Rattle.nb_pcap.specs.declared.fault.FileFault.{FileFault}
use Rattle.nb_pcap.specs.declared.fault.FileFault.TheVariants.{UnknownForm, TooLong, BadBlock, NoInterface, TooManyInterfaces, NoMemory}
use Rattle.nb_pcap.specs.declared.frame.Head.{Head}
use Rattle.nb_pcap.specs.declared.limits.TheConstants.{INTERFACE_LENGTH, PACKET_LENGTH, SIMPLE_LENGTH, MAX_CAPTURED, MAX_INTERFACES}
use Rattle.nb_pcap.specs.declared.numbers.Order.{Order}
use Rattle.nb_pcap.specs.declared.section.Interface.{Interface}
use Rattle.nb_pcap.specs.declared.section.Section.{Section}
use Rattle.nb_pcap.specs.Block.{kind_in, block_order, has_two_lengths}
use Rattle.nb_pcap.specs.Clock.{ticks_a_second, time_of}
use Rattle.nb_pcap.specs.Numbers.{number}
use Rattle.nb_pcap.specs.Options.{SaidValue, options_said}

-- fitting head room: this, where the captured bytes are no more than a frame may have, and than a block has room for
abbrev pub fitting : Head → ℕ → Result Head FileFault
fitting head room = cond (nat_lt MAX_CAPTURED head.captured) (Err TooLong) (cond (nat_lt room head.captured) (Err BadBlock) (Ok head))

-- how many bytes of a frame a Simple Packet has; a snap length of 0 is no limit
abbrev pub captured_of : ℕ → ℕ → ℕ
captured_of snap original = cond (nat_eq snap 0) original (min snap original)

-- where the frame of a Simple Packet of this interface stands
abbrev pub simple_of : Option Interface → Section → List ℕ → Result Head FileFault
simple_of None section block = Err NoInterface
simple_of (Some interface) section block =
    fitting (record {
      interface = 0;
      link = interface.link;
      time = None;
      start = 12;
      captured = captured_of interface.snap (number section.order w32 block 8);
      original = number section.order w32 block 8;
    }) (length block - SIMPLE_LENGTH)

-- what a Simple Packet says, and where its frame stands
abbrev pub simple_head : Section → List ℕ → Result Head FileFault
simple_head section block = simple_of (slice_get section.interfaces 0) section block

-- where the frame of a packet with a time stands, which is of this interface
abbrev pub timed_of : Option Interface → Section → ℕ → List ℕ → Result Head FileFault
timed_of None section which block = Err NoInterface
timed_of (Some interface) section which block =
    fitting (record {
      interface = which;
      link = interface.link;
      time = time_of interface.clock (number section.order w32 block 12 * 2 ^ 32 + number section.order w32 block 16);
      start = 28;
      captured = number section.order w32 block 20;
      original = number section.order w32 block 24;
    }) (length block - PACKET_LENGTH)

-- what a packet of this interface says, and where its frame stands
abbrev pub timed_head : Section → ℕ → List ℕ → Result Head FileFault
timed_head section which block = timed_of (slice_get section.interfaces which) section which block

-- ---- blocks

-- what an item of a file gives, and what the items after it are read by
pub record Taken (S : Type 0) : Type 0 where
  pub head : Option Head
  pub next : S

-- the same of a packet, after which nothing is otherwise
abbrev pub taken_from : Section → Result Head FileFault → Result (Taken Section) FileFault
taken_from section (Ok head) = Ok (record { head = Some head; next = section })
taken_from section (Err fault) = Err fault

-- the interface that a block describes whose options say this
abbrev pub interface_said : Order → List ℕ → SaidValue → Interface
interface_said order block s = record {
  link = number order w16 block 8;
  snap = number order w32 block 12;
  clock = record { ticks = ticks_a_second s.resolution; offset = s.offset };
  name = s.name;
}

-- the interface that a block describes; none where an option runs past its end
abbrev pub interface_in : Order → List ℕ → Option Interface
interface_in order block = option_map (interface_said order block) (options_said order (take (length block - INTERFACE_LENGTH) (drop 16 block)))

-- a section that describes an interface more
abbrev pub with_interface : Section → Interface → Section
with_interface section interface = record { order = section.order; interfaces = section.interfaces ++ interface ∷ []; earlier = section.earlier }

-- what a description of this interface gives
abbrev pub described_as : Section → Option Interface → Result (Taken Section) FileFault
described_as section None = Err BadBlock
described_as section (Some interface) = Ok (record { head = None; next = with_interface section interface })

-- what an Interface Description gives
abbrev pub described : Section → List ℕ → Result (Taken Section) FileFault
described section block = cond (nat_le MAX_INTERFACES (length section.interfaces)) (Err TooManyInterfaces) (described_as section (interface_in section.order block))

-- a number of 64 bits; no file has more interfaces
abbrev pub counted : ℕ → ℕ
counted n = min n (2 ^ 64 - 1)

-- the section after another: it has none of that one's interfaces
abbrev pub section_after : Section → Order → Section
section_after section order = record { order = order; interfaces = []; earlier = counted (section.earlier + length section.interfaces) }

-- what a block of this kind gives, whose numbers have this order
abbrev pub content_of : BlockKind → Order → Section → List ℕ → Result (Taken Section) FileFault
content_of kind.Section own section block = Ok (record { head = None; next = section_after section own })
content_of kind.Interface own section block = described section block
content_of kind.Obsolete own section block = taken_from section (timed_head section (number own w16 block 8) block)
content_of kind.Simple own section block = taken_from section (simple_head section block)
content_of kind.Enhanced own section block = taken_from section (timed_head section (number own w32 block 8) block)
content_of kind.Other own section block = Ok (record { head = None; next = section })

-- the same, where the order of the block's numbers is known
abbrev pub content_in : Option Order → Section → List ℕ → Result (Taken Section) FileFault
content_in None section block = Err UnknownForm
content_in (Some own) section block = cond (has_two_lengths own block) (content_of (kind_in section.order block) own section block) (Err BadBlock)

-- what a whole block gives in a section
abbrev pub block_content : Section → List ℕ → Result (Taken Section) FileFault
block_content section block = content_in (block_order section.order block) section block

-- Gives content result old new: this is answered of what has this content, and makes old new; memory may run out
abbrev pub Gives : {S : Type 0} → Result (Taken S) FileFault → Result (Option Head) FileFault → S → S → Type 0
Gives (Ok taken) (Ok head) old new = (head ≡ taken.head) × (new ≡ taken.next)
Gives (Ok taken) (Err fault) old new = (fault ≡ NoMemory) × (new ≡ old)
Gives (Err why) (Ok head) old new = ⊥
Gives (Err why) (Err fault) old new = (fault ≡ why) × (new ≡ old)
