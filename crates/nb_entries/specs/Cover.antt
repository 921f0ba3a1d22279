-- Covers: the bytes that are known of a datagram's data, by place, and its marks: the end, if that is known, and the
-- greatest promise, if there is one (our choice).
-- Places count from the first byte of the datagram's data.
use Rattle.std.specs.Prelude.{◌≡◌, ◌&&◌, ◌+◌, ◌<◌, ℕ, Bool, true, List, [], ◌∷◌, Option, Some, None, nat_lt}
use Rattle.std.specs.Ordering.{nat_cmp}
use Rattle.std.specs.List.{list_all}
use Rattle.std.specs.FinMap as map
use Rattle.nb_datagram.specs.Fragment.{Core}
use Rattle.nb_entries.specs.Piece.{PieceParts, piece_of}
use Rattle.nb_entries.specs.Marks.{Marks, piece_marks, marks_together, MarksFit, marks_agree, MarksBelow, marks_lie_below, same_where}
use Rattle.nb_entries.specs.Maps.{union, Slot, join_slot, OnHeld}

-- the bytes by place, and the marks
pub record CoverFacts : Type 0 where
  pub bytes : map.FinMap nat_cmp ℕ
  pub marks : Marks

-- no place has two different bytes, as a test
abbrev pub bytes_agree : map.FinMap nat_cmp ℕ → map.FinMap nat_cmp ℕ → Bool
bytes_agree a b = list_all (λ e. same_where (map.get b e.0) e.1) (map.entries a)

-- BytesBelow n m: each place that has a byte in m lies below the place n
abbrev pub BytesBelow : ℕ → map.FinMap nat_cmp ℕ → Type 0
BytesBelow n m = (i x : ℕ) → map.get m i ≡ Some x → i < n

-- each place that has a byte in m lies below n, as a test
abbrev pub bytes_lie_below : ℕ → map.FinMap nat_cmp ℕ → Bool
bytes_lie_below n m = list_all (λ e. nat_lt e.0 n) (map.entries m)

-- LiesBelow n c: all that c has lies below the place n: each place with a byte, and what is marked
pub record LiesBelow (n : ℕ) (c : CoverFacts) : Type 0 where
  pub bytes : BytesBelow n c.bytes
  pub marks : MarksBelow n c.marks

-- all that c has lies below n, as a test
abbrev pub lies_below : ℕ → CoverFacts → Bool
lies_below n c = bytes_lie_below n c.bytes && marks_lie_below n c.marks

-- all that c has lies below this end, if there is one, as a test
abbrev pub is_below_end : Option ℕ → CoverFacts → Bool
is_below_end None c = true
is_below_end (Some n) c = lies_below n c

-- the two don't contradict each other: at a place of both one byte, marks that don't, and each lies below
-- the end of the other
pub record CoversFit (a b : CoverFacts) : Type 0 where
  pub bytes : (i x y : ℕ) → map.get a.bytes i ≡ Some x → map.get b.bytes i ≡ Some y → x ≡ y
  pub marks : MarksFit a.marks b.marks
  pub own_below : (n : ℕ) → b.marks.end ≡ Some n → LiesBelow n a
  pub other_below : (n : ℕ) → a.marks.end ≡ Some n → LiesBelow n b

-- the two don't contradict each other, as a test
abbrev pub covers_agree : CoverFacts → CoverFacts → Bool
covers_agree a b =
    bytes_agree a.bytes b.bytes
    && (marks_agree a.marks b.marks && (is_below_end b.marks.end a && is_below_end a.marks.end b))

-- what two that agree say together
abbrev pub covers_together : CoverFacts → CoverFacts → CoverFacts
covers_together a b = record { bytes = union a.bytes b.bytes; marks = marks_together a.marks b.marks }

-- a cover: clashed, or bytes by place and marks
abbrev pub CoverValue : Type 0
CoverValue = Slot CoverFacts

-- the join of two covers
abbrev pub join_cover : CoverValue → CoverValue → CoverValue
join_cover = join_slot covers_agree covers_together

-- it lies below its own end, if it has one
abbrev pub AreCoverFacts : CoverFacts → Type 0
AreCoverFacts a = (n : ℕ) → a.marks.end ≡ Some n → LiesBelow n a

-- the cover is well formed
abbrev pub IsCover : CoverValue → Type 0
IsCover = OnHeld AreCoverFacts

-- placed i bytes: the bytes with their places, from i on
abbrev pub placed : ℕ → List ℕ → List (ℕ × ℕ)
placed i [] = []
placed i (x ∷ xs) = (i, x) ∷ placed (i + 1) xs

-- what one piece says of its data
abbrev pub piece_cover : PieceParts → CoverFacts
piece_cover p = record { bytes = map.from_entries (placed p.offset p.bytes); marks = piece_marks p }

-- what one fragment says of its datagram's data
abbrev pub cover_of : Core → CoverFacts
cover_of f = piece_cover (piece_of f)
