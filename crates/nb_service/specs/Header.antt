-- The header of a name service packet (RFC 1002 section 4.2.1.1), twelve bytes. All offsets count
-- from the packet's first byte; the numbers after the names of fields are their widths in bytes.
--   at 0  NAME_TRN_ID 2 · at 2  R, OPCODE, NM_FLAGS and RCODE 2 · at 4  QDCOUNT 2 · at 6  ANCOUNT 2
--   at 8  NSCOUNT 2 · at 10  ARCOUNT 2
use Rattle.std.specs.Prelude.{ℕ, List, ◌+◌, ◌/◌, ◌%◌, ◌^◌}
use Rattle.std.specs.Int.{w16}
use Rattle.nb_streams.specs.Places.{NumberAt}
use Rattle.nb_service.specs.declared.header.Header.{Header}
use Rattle.std.specs.Int.RustNames.{bit_and}
use Rattle.nb_service.specs.declared.flags.NmFlags.{NmFlags}
use Rattle.nb_service.specs.declared.flags.NodeFlags.{NodeFlags}

-- a header: the identifier, the flag word, and how many items the packet has of each sort
pub record PacketHeader : Type 0 where
  pub id : ℕ
  pub word : ℕ
  pub questions : ℕ
  pub answers : ℕ
  pub authorities : ℕ
  pub additional : ℕ

-- these bytes begin with this header
pub record HasHeader (packet : List ℕ) (header : PacketHeader) : Type 0 where
  pub id : NumberAt packet 0 w16 header.id
  pub word : NumberAt packet 2 w16 header.word
  pub questions : NumberAt packet 4 w16 header.questions
  pub answers : NumberAt packet 6 w16 header.answers
  pub authorities : NumberAt packet 8 w16 header.authorities
  pub additional : NumberAt packet 10 w16 header.additional

-- the header that a value of the code stands for
abbrev pub header_value : Header → PacketHeader
header_value h =
    record {
      id = h.id;
      word = h.word;
      questions = h.questions;
      answers = h.answers;
      authorities = h.authorities;
      additional = h.additional;
    }

-- ---- fields of a packet's flag word (RFC 1002 section 4.2.1.1): R 8000, OPCODE 7800, NM_FLAGS 07f0, RCODE 000f
--  ONT is the two bits 6000 of NB_FLAGS (section 4.2.13) and of NAME_FLAGS (section 4.2.18).

-- OPCODE: the four bits above the lowest eleven
abbrev pub opcode_of : ℕ → ℕ
opcode_of word = word / 2 ^ 11 % 2 ^ 4

-- RCODE: the lowest four bits
abbrev pub rcode_of : ℕ → ℕ
rcode_of word = word % 2 ^ 4

-- the bits of a word that NM_FLAGS names: AA, TC, RD, RA and B
abbrev pub nm_bits_of : ℕ → ℕ
nm_bits_of word = bit_and word (2 ^ 10 + 2 ^ 9 + 2 ^ 8 + 2 ^ 7 + 2 ^ 4)

-- the bits of a word that NAME_FLAGS names, but for ONT: G, DRG, CNF, ACT and PRM
abbrev pub node_bits_of : ℕ → ℕ
node_bits_of word = bit_and word (2 ^ 15 + 2 ^ 12 + 2 ^ 11 + 2 ^ 10 + 2 ^ 9)

-- the bits of a set of flags, in their places
abbrev pub nm_bits : NmFlags → ℕ
nm_bits flags = flags.0

-- the bits of a set of flags, in their places
abbrev pub node_bits : NodeFlags → ℕ
node_bits flags = flags.0

-- ONT: the two bits below the highest
abbrev pub ont_of : ℕ → ℕ
ont_of flags = flags / 2 ^ 13 % 2 ^ 2
