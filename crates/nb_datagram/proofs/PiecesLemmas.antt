-- The pieces of a datagram are parts of it, which cover all its places, and the last of which ends.
use Rattle.nb_datagram.proofs.Common.{◌≡◌, ◌==◌, ◌<◌, ◌≤◌, ◌+◌, ◌-◌, ◌*◌, ◌/◌, inl, inr, ℕ, zero, suc, Bool, true, false, cond, min, List, [], ◌∷◌, ◌++◌, map, take, length, slice_get, get_or, drop, nat_lt, Some, refl, sym, ◌∙◌, ap, subst, arith, length-take, length-map, get_or-take, get_or-drop, append-nil, take_all, Core, Covers, named_length, cores_of, core_of, has_more, reach, DatagramParts, name_bytes, length-drop}
use Rattle.std.proofs.Math.ListN.{get_or-map}
use Rattle.std.proofs.Math.Nat.{add-mul, one-mul, le-div_iff_mul-le, div-lt_iff_lt-mul, div-mul-le_self, lt-div-mul-add}
use Rattle.std.proofs.lemmas.Bool.{cases_lt}
use Rattle.std.proofs.lemmas.Bool.Decides.{nat_tests}
use Rattle.std.proofs.lemmas.Grind.{flat_map-append}
use Rattle.std.proofs.Math.Seq.{take-add}
use Rattle.std.proofs.lemmas.List.FromFn.{length-range_with_len, get_or-range_with_len, map-range_with_len_more}
use Rattle.std.proofs.lemmas.List.Elements.{All-map, All-contains}
use Rattle.std.proofs.lemmas.Option.{slice_get-get_or, get_or_from_slice_get, slice_get_within}
use Rattle.std.specs.Cmp.{both_ways}
use Rattle.std.specs.List.{Contains, All, flat_map, range_with_len, slice_range}
use Rattle.nb_datagram.specs.declared.limits.TheConstants.{MAX_LENGTH, MORE, FIRST}
use Rattle.nb_datagram.specs.Pieces.{IsPart, piece_count, piece, pieces, AreTooLong}

-- ---- tests of numbers

lt_is : (x y : ℕ) → nat_lt x y ≡ true → x < y
lt_is x y h = grind (arith, nat_tests)

is_lt : (x y : ℕ) → x < y → nat_lt x y ≡ true
is_lt x y h = grind (arith, nat_tests)

-- ---- how many pieces there are

-- a piece but the first starts in the data
pub count_above : (n m k : ℕ) → 1 ≤ m → 1 ≤ k → k < piece_count n m → k * m < n
count_above n m k h first below =
    let whole : k + 1 ≤ (n + m - 1) / m = omega arith in
    let product : (k + 1) * m ≤ n + m - 1 = (le-div_iff_mul-le h).0 whole in
    let split = add-mul k 1 m in
    let single = one-mul m in
    omega arith

-- so many pieces have all the data
pub count_below : (n m k : ℕ) → 1 ≤ m → piece_count n m ≤ k → n ≤ k * m
count_below n m k h above =
    let whole : (n + m - 1) / m < k + 1 = omega arith in
    let product : n + m - 1 < (k + 1) * m = (div-lt_iff_lt-mul h).0 whole in
    let split = add-mul k 1 m in
    let single = one-mul m in
    omega arith

-- the piece of a place is one of them
pub count_place : (n m i : ℕ) → 1 ≤ m → i < n → i / m < piece_count n m
count_place n m i h inside = elim (cases_lt (i / m) (piece_count n m)) [
  | inl below ↦ below
  | inr above ↦ (let all = count_below n m (i / m) h above in
      let start = div-mul-le_self i m in
      absurd (omega arith))
]

-- a piece starts in the data, or at its end
start_within : (n m j : ℕ) → 1 ≤ m → j < piece_count n m → j * m ≤ n
start_within n m zero h below = omega arith
start_within n m (suc j) h below = let start = count_above n m (suc j) h (omega arith) below in omega arith

-- ---- a range of a list

length-slice_range : (xs : List ℕ) (a b : ℕ) → length (slice_range xs a b) ≡ min (b - a) (length xs - a)
length-slice_range xs a b = length-take (b - a) (drop a xs) ∙ ap (min (b - a)) (length-drop a xs)

get_or-slice_range : (xs : List ℕ) (a b k d : ℕ) → k < b - a → get_or (slice_range xs a b) k d ≡ get_or xs (a + k) d
get_or-slice_range xs a b k d h = get_or-take (b - a) (drop a xs) k d h ∙ get_or-drop a xs k d

-- what a range has, the list has
pub out_of_range : (xs : List ℕ) (a b k x : ℕ) → slice_get (slice_range xs a b) k ≡ Some x → slice_get xs (a + k) ≡ Some x
out_of_range xs a b k x e =
    let inside = slice_get_within (slice_range xs a b) k x e in
    let long = length-slice_range xs a b in
    let before : k < b - a = omega arith in
    let within : a + k < length xs = omega arith in
    slice_get-get_or xs (a + k) x within
    ∙ ap Some (sym (get_or-slice_range xs a b k x before) ∙ get_or_from_slice_get (slice_range xs a b) k x x e)

-- and the range has what the list has at its places
pub into_range : (xs : List ℕ) (a b k : ℕ) → a + k < b → a + k < length xs → slice_get (slice_range xs a b) k ≡ Some (get_or xs (a + k) 0)
into_range xs a b k before within =
    let long = length-slice_range xs a b in
    slice_get-get_or (slice_range xs a b) k 0 (omega arith)
    ∙ ap Some (get_or-slice_range xs a b k 0 (omega arith))

-- ---- elements

mapped_in : {X Y : Type 0} (g : X → Y) (xs : List X) (x : X) → Contains xs x → Contains (map g xs) (g x)
mapped_in g xs x (k, inside, there) = (k, omega (arith, inside, length-map xs g), get_or-map g xs k x ∙ ap g there)

from_zero : (n j d : ℕ) → j < n → get_or (range_with_len 0 n) j d ≡ j
from_zero n j d h = get_or-range_with_len 0 n j d h ∙ omega arith

in_range : (n j : ℕ) → j < n → Contains (range_with_len 0 n) j
in_range n j h = (j, let long = length-range_with_len 0 n in omega arith, from_zero n j j h)

all_of_range : (P : ℕ → Type 0) (n : ℕ) → ((j : ℕ) → j < n → P j) → All P (range_with_len 0 n)
all_of_range P n h k d below =
    let long = length-range_with_len 0 n in
    let inside : k < n = omega arith in
    subst P (sym (from_zero n k d inside)) (h k inside)

-- ---- one piece

-- M is set where it is to be
more_set : (p q : Bool) → has_more (cond p FIRST 0 + cond q MORE 0) ≡ q
more_set true true = refl
more_set true false = refl
more_set false true = refl
more_set false false = refl

-- the place after a piece's last byte
piece_reach : (d : DatagramParts) (m j : ℕ) → 1 ≤ m → j < piece_count (length d.bytes) m → reach (core_of (piece d m j)) ≡ min ((j + 1) * m) (length d.bytes)
piece_reach d m j h below =
    let start = start_within (length d.bytes) m j h below in
    let long = length-slice_range d.bytes (j * m) ((j + 1) * m) in
    let split = add-mul j 1 m in
    let single = one-mul m in
    omega arith

-- another piece follows exactly where this one ends short of the data
piece_more : (d : DatagramParts) (m j : ℕ) → 1 ≤ m → j < piece_count (length d.bytes) m → nat_lt (j + 1) (piece_count (length d.bytes) m) ≡ nat_lt (reach (core_of (piece d m j))) (length d.bytes)
piece_more d m j h below = both_ways _ _
    (λ e. let follows = lt_is (j + 1) (piece_count (length d.bytes) m) e in
    let next = count_above (length d.bytes) m (j + 1) h (omega arith) follows in
    let here = piece_reach d m j h below in
    is_lt _ _ (omega arith))
    (λ e. let short = lt_is (reach (core_of (piece d m j))) (length d.bytes) e in
    let here = piece_reach d m j h below in
    is_lt _ _ (elim (cases_lt (j + 1) (piece_count (length d.bytes) m)) [
      | inl follows ↦ follows
      | inr last ↦ (let all = count_below (length d.bytes) m (j + 1) h last in absurd (omega arith))
    ]))

pub piece_is_part : (d : DatagramParts) (m j : ℕ) → 1 ≤ m → j < piece_count (length d.bytes) m → IsPart (core_of (piece d m j)) d
piece_is_part d m j h below = record {
  key = refl;
  kind = refl;
  source = refl;
  destination = refl;
  bytes = λ i x c. (
      let from = c.0 in
      let place : j * m + (i - j * m) ≡ i = omega arith in
      sym (ap (slice_get d.bytes) place) ∙ out_of_range d.bytes (j * m) ((j + 1) * m) (i - j * m) x c.1);
  within = let here = piece_reach d m j h below in omega arith;
  more = more_set (j == 0) (nat_lt (j + 1) (piece_count (length d.bytes) m)) ∙ piece_more d m j h below;
}

-- ---- all pieces

piece_in : (d : DatagramParts) (m j : ℕ) → j < piece_count (length d.bytes) m → Contains (cores_of (pieces d m)) (core_of (piece d m j))
piece_in d m j below =
    mapped_in core_of (pieces d m) (piece d m j)
    (mapped_in (piece d m) (range_with_len 0 (piece_count (length d.bytes) m)) j (in_range (piece_count (length d.bytes) m) j below))

-- each piece is a part
pub pieces_are_parts : (d : DatagramParts) (m : ℕ) (f : Core) → 1 ≤ m → Contains (cores_of (pieces d m)) f → IsPart f d
pieces_are_parts d m f h has =
    All-contains (λ c. IsPart c d) (cores_of (pieces d m)) f
    (All-map (λ c. IsPart c d) core_of (pieces d m)
    (All-map (λ p. IsPart (core_of p) d) (piece d m) (range_with_len 0 (piece_count (length d.bytes) m))
    (all_of_range (λ j. IsPart (core_of (piece d m j)) d) (piece_count (length d.bytes) m) (λ j below. piece_is_part d m j h below))))
    has

-- the piece of a place covers it
piece_covers : (d : DatagramParts) (m i : ℕ) → 1 ≤ m → i < length d.bytes → (x : ℕ) × Covers (core_of (piece d m (i / m))) i x
piece_covers d m i h inside =
    let start = div-mul-le_self i m in
    let behind = lt-div-mul-add {a = i} h in
    let split = add-mul (i / m) 1 m in
    let single = one-mul m in
    let place : i / m * m + (i - i / m * m) ≡ i = omega arith in
    (get_or d.bytes (i / m * m + (i - i / m * m)) 0, (start, into_range d.bytes (i / m * m) ((i / m + 1) * m) (i - i / m * m) (omega arith) (omega arith)))

-- each place is covered by a piece
pub pieces_cover : (d : DatagramParts) (m i : ℕ) → 1 ≤ m → i < length d.bytes → (f : Core) × Contains (cores_of (pieces d m)) f × ((x : ℕ) × Covers f i x)
pieces_cover d m i h inside =
    (core_of (piece d m (i / m)), piece_in d m (i / m) (count_place (length d.bytes) m i h inside), piece_covers d m i h inside)

-- a piece ends
pub pieces_end : (d : DatagramParts) (m : ℕ) → 1 ≤ m → (f : Core) × Contains (cores_of (pieces d m)) f × (f.more ≡ false)
pieces_end d m h =
    let count : ℕ = piece_count (length d.bytes) m in
    let some : 1 ≤ count = omega arith in
    let last : count - 1 < count = omega arith in
    (core_of (piece d m (count - 1)), piece_in d m (count - 1) last, more_set (count - 1 == 0) (nat_lt (count - 1 + 1) count) ∙ none_after count some)
  where
    none_after : (n : ℕ) → 1 ≤ n → nat_lt (n - 1 + 1) n ≡ false
    none_after n h = both_ways _ _ (λ e. let below = lt_is (n - 1 + 1) n e in absurd (omega arith)) (λ e. absurd (cc))

-- ---- pieces that are too long

-- a piece has no more bytes than are asked for, nor than there are
piece_short : (d : DatagramParts) (m j : ℕ) → length (piece d m j).bytes ≤ min (length d.bytes) m
piece_short d m j =
    let long = length-slice_range d.bytes (j * m) ((j + 1) * m) in
    let split = add-mul j 1 m in
    let single = one-mul m in
    omega arith

-- the first has as many
first_long : (d : DatagramParts) (m : ℕ) → length (piece d m 0).bytes ≡ min (length d.bytes) m
first_long d m =
    let long = length-slice_range d.bytes (0 * m) ((0 + 1) * m) in
    let none : 0 * m ≡ 0 = omega arith in
    let single = one-mul m in
    omega arith

pub pieces_too_long : (d : DatagramParts) (m : ℕ) → 1 ≤ m → MAX_LENGTH < length (name_bytes d.source) + length (name_bytes d.destination) + min (length d.bytes) m → AreTooLong d m
pieces_too_long d m h above =
    let long = first_long d m in (
      piece d m 0,
      mapped_in (piece d m) (range_with_len 0 (piece_count (length d.bytes) m)) 0 (in_range (piece_count (length d.bytes) m) 0 (omega arith)),
      omega (arith, long, above),
    )

pub pieces_not_too_long : (d : DatagramParts) (m : ℕ) → length (name_bytes d.source) + length (name_bytes d.destination) + min (length d.bytes) m ≤ MAX_LENGTH → AreTooLong d m → ⊥
pieces_not_too_long d m low (f, has, above) =
    let each = All-contains (λ p. named_length p.source p.destination p.bytes ≤ MAX_LENGTH) (pieces d m) f
    (All-map (λ p. named_length p.source p.destination p.bytes ≤ MAX_LENGTH) (piece d m) (range_with_len 0 (piece_count (length d.bytes) m))
    (all_of_range (λ j. named_length d.source d.destination (piece d m j).bytes ≤ MAX_LENGTH) (piece_count (length d.bytes) m) (λ j below. let short = piece_short d m j in omega (arith, short, low))))
    has in
    omega (arith, each, above)

-- ---- pieces in turn

pub pieces_more : (d : DatagramParts) (m j : ℕ) → map (piece d m) (range_with_len 0 (j + 1)) ≡ map (piece d m) (range_with_len 0 j) ++ piece d m j ∷ []
pieces_more d m j = map-range_with_len_more (piece d m) 0 j j (omega arith)

-- ---- the data of all pieces

data_so_far : (d : DatagramParts) (m j : ℕ) → flat_map (λ p. p.bytes) (map (piece d m) (range_with_len 0 j)) ≡ take (j * m) d.bytes
data_so_far d m zero = let none : 0 * m ≡ 0 = omega arith in ap (λ (n : ℕ). take n d.bytes) (sym none)
data_so_far d m (suc j) =
    let next : suc j ≡ j + 1 = omega arith in
    let split = add-mul j 1 m in
    let single = one-mul m in
    let whole : j * m + ((j + 1) * m - j * m) ≡ (j + 1) * m = omega arith in
    subst (λ (k : ℕ). flat_map (λ p. p.bytes) (map (piece d m) (range_with_len 0 k)) ≡ take (k * m) d.bytes) (sym next)
    (ap (flat_map (λ p. p.bytes)) (pieces_more d m j)
    ∙ flat_map-append (λ p. p.bytes) (map (piece d m) (range_with_len 0 j)) (piece d m j ∷ [])
    ∙ ap (λ (l : List ℕ). l ++ (slice_range d.bytes (j * m) ((j + 1) * m) ++ [])) (data_so_far d m j)
    ∙ ap (λ (l : List ℕ). take (j * m) d.bytes ++ l) (append-nil (slice_range d.bytes (j * m) ((j + 1) * m)))
    ∙ sym (take-add (j * m) ((j + 1) * m - j * m) d.bytes)
    ∙ ap (λ (n : ℕ). take n d.bytes) whole)

pub pieces_join : (d : DatagramParts) (m : ℕ) → 1 ≤ m → flat_map (λ p. p.bytes) (pieces d m) ≡ d.bytes
pieces_join d m h =
    let all = count_below (length d.bytes) m (piece_count (length d.bytes) m) h (omega arith) in
    data_so_far d m (piece_count (length d.bytes) m) ∙ take_all (piece_count (length d.bytes) m * m) d.bytes all
