-- The parts of a datagram, and the pieces into which it is cut. Places count from the first byte of the
-- datagram's data.
--
-- Other than RFC 1002 section 5.3: each piece carries both names, its DGM_LENGTH counts that packet alone,
-- and its offset is a place in the data. Our choice, which that section leaves open: all pieces but the last
-- have one length, no flag but F and M is set (SNT is 00), and a datagram without data still has a piece.
use Rattle.std.specs.Prelude.{◌≡◌, ◌==◌, ℕ, ◌+◌, ◌-◌, ◌*◌, ◌/◌, ◌≤◌, max, cond, ◌<◌, List, map, length, slice_get, slice_range, nat_lt, Some, Contains}
use Rattle.std.specs.List.{range_with_len}
use Rattle.nb_datagram.specs.declared.limits.TheConstants.{MAX_LENGTH}
use Rattle.nb_datagram.specs.Fragment.{FragmentParts, Core, Covers, reach, named_length, DatagramParts}

-- f is a part of d: what it says is true of d, and it says that more follows exactly where more does
pub record IsPart (f : Core) (d : DatagramParts) : Type 0 where
  pub key : f.key ≡ d.key
  pub kind : f.kind ≡ d.kind
  pub source : f.source ≡ d.source
  pub destination : f.destination ≡ d.destination
  pub bytes : (i x : ℕ) → Covers f i x → slice_get d.bytes i ≡ Some x
  pub within : reach f ≤ length d.bytes
  pub more : f.more ≡ nat_lt (reach f) (length d.bytes)

-- piece_count n m: how many pieces of m bytes n bytes have, the last of which may be shorter, and at
-- least one
abbrev pub piece_count : ℕ → ℕ → ℕ
piece_count n m = max 1 ((n + m - 1) / m)

-- piece d m j: the m bytes of d from place j * m on, or as many as are left; F marks piece 0, and M each
-- piece with another after it
abbrev pub piece : DatagramParts → ℕ → ℕ → FragmentParts
piece d m j = record {
  kind = d.kind;
  flags = cond (j == 0) 2 0 + cond (nat_lt (j + 1) (piece_count (length d.bytes) m)) 1 0;
  key = d.key;
  offset = j * m;
  source = d.source;
  destination = d.destination;
  bytes = slice_range d.bytes (j * m) ((j + 1) * m);
}

-- the pieces of d by m, m at least 1, in order
abbrev pub pieces : DatagramParts → ℕ → List FragmentParts
pieces d m = map (piece d m) (range_with_len 0 (piece_count (length d.bytes) m))

-- AreTooLong d m: one of the pieces of d by m has, with its names, more bytes than DGM_LENGTH can count
abbrev pub AreTooLong : DatagramParts → ℕ → Type 0
AreTooLong d m =
    (f : FragmentParts) × Contains (pieces d m) f × (MAX_LENGTH < named_length f.source f.destination f.bytes)
