-- Lemmas on bytes and numbers that stand in a packet, for proofs here and in the crates above.
use Rattle.std.proofs.Common.{◌≡◌, ℕ, zero, suc, ◌+◌, ◌-◌, ◌≤◌, ◌<◌, List, [], ◌∷◌, length, take, drop, get_or, refl, ap, sym, ◌∙◌, arith, length-drop}
use Rattle.std.proofs.lemmas.List.{length-take, length-take-le, take-take, drop-take}
use Rattle.std.proofs.lemmas.Nat.{be_bytes_2, from_be_bytes-to_be_bytes_2, from_be_bytes-to_be_bytes_4}
use Rattle.std.specs.Int.{w16, w32, to_be_bytes, from_be_bytes}
use Rattle.std.specs.List.{AllByRecursion}
use Rattle.nb_streams.specs.Places.{AreBytes}
use Rattle.nb_streams.specs.Places.{StandsAt, NumberAt}

-- ---- bytes

-- what stands at an offset is one, for each length
pub stands_same : (packet : List ℕ) (at : ℕ) (xs ys : List ℕ) → StandsAt packet at xs → StandsAt packet at ys → length xs ≡ length ys → xs ≡ ys
stands_same packet at xs ys h g e = sym h ∙ ap (λ (n : ℕ). take n (drop at packet)) e ∙ g

-- what stands there is within the packet
pub stands_fits : (packet : List ℕ) (at : ℕ) (bytes : List ℕ) → StandsAt packet at bytes → 0 < length bytes → at + length bytes ≤ length packet
stands_fits packet at bytes h some =
    omega (arith, ap length h, length-take (length bytes) (drop at packet), length-drop at packet)

-- the bytes of a range stand at its start
pub range_stands : (packet : List ℕ) (at size : ℕ) → at + size ≤ length packet →
    let bytes : List ℕ = take (at + size - at) (drop at packet) in (length bytes ≡ size) × StandsAt packet at bytes
range_stands packet at size fits =
    let few : at + size - at ≡ size = omega arith in
    let long : length (take size (drop at packet)) ≡ size = length-take-le size (drop at packet) (omega (arith, length-drop at packet)) in
    rw few (long, ap (λ (n : ℕ). take n (drop at packet)) long)

-- a front of a packet has the bytes that the packet has
front_same : (packet : List ℕ) (count at size : ℕ) → at + size ≤ count → take size (drop at (take count packet)) ≡ take size (drop at packet)
front_same packet count at size fits =
    let more : at + (count - at) ≡ count = omega arith in
    ap (λ (n : ℕ). take size (drop at (take n packet))) (sym more)
    ∙ ap (take size) (drop-take at (count - at) packet)
    ∙ take-take size (count - at) (drop at packet) (omega arith)

-- what stands in a front of a packet stands in the packet, and the other way round
pub stands_in_all : (packet : List ℕ) (count at : ℕ) (bytes : List ℕ) → at + length bytes ≤ count → StandsAt (take count packet) at bytes → StandsAt packet at bytes
stands_in_all packet count at bytes fits h = sym (front_same packet count at (length bytes) fits) ∙ h

pub stands_in_front : (packet : List ℕ) (count at : ℕ) (bytes : List ℕ) → at + length bytes ≤ count → StandsAt packet at bytes → StandsAt (take count packet) at bytes
stands_in_front packet count at bytes fits h = front_same packet count at (length bytes) fits ∙ h

-- each byte is below 256
pub byte_below : (bytes : List ℕ) → AreBytes bytes → (i : ℕ) → get_or bytes i 0 < 256
byte_below [] each i = omega arith
byte_below (b ∷ bs) each zero = omega (arith, each.0)
byte_below (b ∷ bs) each (suc i) = byte_below bs each.1 i

-- what holds of all elements holds of those of a part
pub All-take : {A : Type 0} (P : A → Type 0) (n : ℕ) (xs : List A) → AllByRecursion P xs → AllByRecursion P (take n xs)
All-take P zero xs each = tt
All-take P (suc n) [] each = tt
All-take P (suc n) (x ∷ xs) each = (each.0, All-take P n xs each.1)

pub All-drop : {A : Type 0} (P : A → Type 0) (n : ℕ) (xs : List A) → AllByRecursion P xs → AllByRecursion P (drop n xs)
All-drop P zero xs each = each
All-drop P (suc n) [] each = tt
All-drop P (suc n) (x ∷ xs) each = All-drop P n xs each.1

-- ---- numbers

-- two bytes are a number
pub number_there : (packet : List ℕ) (at : ℕ) → AreBytes packet → at + 2 ≤ length packet → (n : ℕ) × NumberAt packet at w16 n
number_there packet at each fits =
    let two : List ℕ = take 2 (drop at packet) in
    let long : length two ≡ 2 = length-take-le 2 (drop at packet) (omega (arith, length-drop at packet)) in
    let low = byte_below two (All-take _ 2 (drop at packet) (All-drop _ at packet each)) in
    (from_be_bytes w16 two, record { fits = omega (arith, low 0, low 1); bytes = sym (be_bytes_2 two (from_be_bytes w16 two) long low refl) })

-- the number that stands at an offset is one
pub one_number_16 : (packet : List ℕ) (at m n : ℕ) → NumberAt packet at w16 m → NumberAt packet at w16 n → m ≡ n
one_number_16 packet at m n a b =
    sym (from_be_bytes-to_be_bytes_2 m a.fits)
    ∙ ap (λ (bytes : List ℕ). from_be_bytes w16 bytes) (stands_same packet at (to_be_bytes w16 m) (to_be_bytes w16 n) a.bytes b.bytes refl)
    ∙ from_be_bytes-to_be_bytes_2 n b.fits

pub one_number_32 : (packet : List ℕ) (at m n : ℕ) → NumberAt packet at w32 m → NumberAt packet at w32 n → m ≡ n
one_number_32 packet at m n a b =
    sym (from_be_bytes-to_be_bytes_4 m a.fits)
    ∙ ap (λ (bytes : List ℕ). from_be_bytes w32 bytes) (stands_same packet at (to_be_bytes w32 m) (to_be_bytes w32 n) a.bytes b.bytes refl)
    ∙ from_be_bytes-to_be_bytes_4 n b.fits

-- its two bytes are within the packet
pub within_16 : (packet : List ℕ) (at n : ℕ) → NumberAt packet at w16 n → at + 2 ≤ length packet
within_16 packet at n a = stands_fits packet at (to_be_bytes w16 n) a.bytes (omega arith)
