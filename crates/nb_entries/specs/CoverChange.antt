-- Covers of pieces (our choice): what several pieces say together, and what one more changes.
use Rattle.std.specs.Prelude.{◌≡◌, ◌≢◌, ◌<◌, ℕ, List, fold, length, slice_get, Option, Some, None}
use Rattle.std.specs.FinMap as maps
use Rattle.nb_entries.specs.declared.outline.Change.TheVariants.{Spoilt, Whole, Same, Grown}
use Rattle.nb_entries.specs.Maps.{Spoilt as Clashed, Held}
use Rattle.nb_entries.specs.Marks.{no_marks}
use Rattle.nb_entries.specs.Piece.{PieceParts}
use Rattle.nb_entries.specs.Cover.{CoverFacts, CoverValue, join_cover, piece_cover}
use Rattle.nb_entries.specs.Whole.{bytes_to, newly}
use Rattle.nb_entries.specs.Change.{DataChange}

-- what no piece says
abbrev pub no_facts : CoverFacts
no_facts = record { bytes = maps.empty; marks = no_marks }

-- a cover joined with what a piece says
abbrev pub with_piece : CoverValue → PieceParts → CoverValue
with_piece c p = join_cover c (Held (piece_cover p))

-- the join of what the pieces say, in order
abbrev pub cover_of_pieces : List PieceParts → CoverValue
cover_of_pieces = fold with_piece (Held no_facts)

-- how many places have a byte in a cover
abbrev pub known_of : CoverValue → ℕ
known_of Clashed = 0
known_of (Held c) = maps.len c.bytes

-- the data of a cover, if it is whole: its bytes up to its end
abbrev pub data_of : CoverValue → Option (List ℕ)
data_of Clashed = None
data_of (Held c) = bytes_to c.bytes c.marks.end

-- IsData c xs: xs are as many bytes as the end of c says, and each is the byte of c at its place
pub record IsData (c : CoverFacts) (xs : List ℕ) : Type 0 where
  pub ends : c.marks.end ≡ Some (length xs)
  pub bytes : (i : ℕ) → i < length xs → maps.get c.bytes i ≡ slice_get xs i

-- CoverChange a b c: a cover was a and is b; c is what changed: it became clashed; it became whole, with this data; nothing; or more
-- is known, and it became neither
abbrev pub CoverChange : CoverValue → CoverValue → DataChange → Type 0
CoverChange a b Spoilt = (a ≢ Clashed) × (b ≡ Clashed)
CoverChange a b (Whole xs) = newly (data_of a) (data_of b) ≡ Some xs
CoverChange a b Same = b ≡ a
CoverChange a b Grown = (b ≢ a) × (b ≢ Clashed) × (newly (data_of a) (data_of b) ≡ None)
