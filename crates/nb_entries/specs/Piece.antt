-- Pieces of data (our choice): bytes at a place, and whether more follow. A fragment of a datagram is one, and so is a fragment of
-- IP: this is all that counts of them when data is put together again.
use Rattle.std.specs.Prelude.{ℕ, ◌+◌, Bool, List, length}
use Rattle.nb_datagram.specs.Fragment.{Core}

-- the place of the first byte, the bytes, and whether more follow them
pub record PieceParts : Type 0 where
  pub offset : ℕ
  pub bytes : List ℕ
  pub more : Bool

-- the place after its last byte
abbrev pub piece_reach : PieceParts → ℕ
piece_reach p = p.offset + length p.bytes

-- the piece that a fragment of this core is
abbrev pub piece_of : Core → PieceParts
piece_of f = record { offset = f.offset; bytes = f.bytes; more = f.more }
