-- Blocks of pcapng (draft-ietf-opsawg-pcapng): each has its type 4, its length 4, its body, and its length again 4. The type of a
-- Section Header is the same in both orders of bytes, and its body begins with a magic number that tells the order of its section. The
-- version after that and the section's length aren't judged (our choice).
use Rattle.std.specs.Prelude.{ℕ, ◌-◌, ◌%◌, ◌&&◌, ◌||◌, Bool, true, false, not, cond, nat_eq, nat_lt, List, take, length, Option, Some, None, Result, Ok, Err}
use Rattle.std.specs.Int.{w32}
use Rattle.nb_pcap.specs.declared.block.BlockKind.{BlockKind}
use Rattle.nb_pcap.specs.declared.block.BlockKind.TheVariants.{Section, Interface, Obsolete, Simple, Enhanced, Other}
use Rattle.nb_pcap.specs.declared.fault.FileFault.{FileFault}
use Rattle.nb_pcap.specs.declared.fault.FileFault.TheVariants.{UnknownForm, TooLong, BadBlock}
use Rattle.nb_pcap.specs.declared.limits.TheConstants.{BLOCK_LENGTH, SECTION_LENGTH, INTERFACE_LENGTH, PACKET_LENGTH, SIMPLE_LENGTH, MAX_ITEM}
use Rattle.nb_pcap.specs.declared.numbers.Order.{Order}
use Rattle.nb_pcap.specs.declared.numbers.Order.TheVariants.{Little, Big}
use Rattle.nb_pcap.specs.Numbers.{number}

-- what a block of this type is
abbrev pub kind_of : ℕ → BlockKind
kind_of n =
    cond (nat_eq n 0x0a0d0d0a) Section (cond (nat_eq n 1) Interface (cond (nat_eq n 2) Obsolete (cond (nat_eq n 3) Simple (cond (nat_eq n 6) Enhanced Other))))

-- whether blocks of this kind are read, and not passed over
abbrev pub is_read : BlockKind → Bool
is_read Other = false
is_read _ = true

-- how many bytes a block of this kind has at least
abbrev pub least_length : BlockKind → ℕ
least_length Section = SECTION_LENGTH
least_length Interface = INTERFACE_LENGTH
least_length Obsolete = PACKET_LENGTH
least_length Simple = SIMPLE_LENGTH
least_length Enhanced = PACKET_LENGTH
least_length Other = BLOCK_LENGTH

-- the order of a section's numbers, by the magic number of its header, which is read low byte first
abbrev pub order_marked : List ℕ → Option Order
order_marked bytes =
    cond (nat_eq (number Little w32 bytes 8) 0x1a2b3c4d) (Some Little) (cond (nat_eq (number Little w32 bytes 8) 0x4d3c2b1a) (Some Big) None)

-- what the block is that begins with these bytes, in a section of this order
abbrev pub kind_in : Order → List ℕ → BlockKind
kind_in order bytes = kind_of (number order w32 bytes 0)

-- the order of a block's numbers, in a section of this order
abbrev pub order_for : BlockKind → Order → List ℕ → Option Order
order_for Section order bytes = order_marked bytes
order_for _ order bytes = Some order

-- the same of the block that begins with these bytes
abbrev pub block_order : Order → List ℕ → Option Order
block_order order bytes = order_for (kind_in order bytes) order bytes

-- how many bytes a block of this kind has whose first length is this
abbrev pub sized : BlockKind → ℕ → Result ℕ FileFault
sized kind size =
    cond (nat_lt size (least_length kind) || not (nat_eq (size % 4) 0)) (Err BadBlock)
    (cond (is_read kind && nat_lt MAX_ITEM size) (Err TooLong) (Ok size))

-- the same, where the order of the block's numbers is known
abbrev pub sized_in : BlockKind → Option Order → List ℕ → Result ℕ FileFault
sized_in kind None bytes = Err UnknownForm
sized_in kind (Some own) bytes = sized kind (number own w32 bytes 4)

-- how many bytes a block has that begins with these twelve bytes, in a section of this order
abbrev pub size_said : Order → List ℕ → Result ℕ FileFault
size_said order front = sized_in (kind_in order front) (block_order order front) front

-- how many bytes the block has that these bytes begin: 12 at least, and then as many as those say
abbrev pub block_size : Order → List ℕ → Result ℕ FileFault
block_size order bytes = cond (nat_lt (length bytes) BLOCK_LENGTH) (Ok BLOCK_LENGTH) (size_said order (take BLOCK_LENGTH bytes))

-- whether the second length of a block is its length
abbrev pub has_two_lengths : Order → List ℕ → Bool
has_two_lengths order block = nat_eq (number order w32 block (length block - 4)) (length block)
