-- Numbers of a capture file, in the order of bytes that the file or the section has.
use Rattle.std.specs.Prelude.{ℕ, List, take, drop}
use Rattle.std.specs.Int.{Width, byte_len, from_le_bytes, from_be_bytes}
use Rattle.nb_pcap.specs.declared.numbers.Order.{Order}
use Rattle.nb_pcap.specs.declared.numbers.Order.TheVariants.{Little, Big}

-- in_order order width bytes: the number that these bytes are
abbrev pub in_order : Order → Width → List ℕ → ℕ
in_order Little width bytes = from_le_bytes width bytes
in_order Big width bytes = from_be_bytes width bytes

-- number order width bytes at: the number in the field of this width at a place
abbrev pub number : Order → Width → List ℕ → ℕ → ℕ
number order width bytes at = in_order order width (take (byte_len width) (drop at bytes))
