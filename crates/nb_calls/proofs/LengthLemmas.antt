-- How long the packets of a datagram are.
use Rattle.nb_calls.proofs.Common.{◌≡◌, ◌∙◌, ◌<◌, ◌≤◌, ◌+◌, ◌-◌, ◌*◌, ◌↔◌, IsTrue, ℕ, List, min, length, drop, ap, arith, length-append, slice_range, nat_tests, length-take, length-drop, DatagramParts, FragmentParts, name_bytes, IsKey, are_long, packet_of}
use Rattle.std.proofs.Math.Nat.{add-mul, one-mul}
use Rattle.nb_datagram.specs.Pieces.{piece}

packet_length : (f : FragmentParts) → IsKey f.key
    → length (packet_of f) ≡ 14 + (length (name_bytes f.source) + length (name_bytes f.destination) + length f.bytes)
packet_length f key = grind (arith, length-append, key.ip)

range_length : (xs : List ℕ) (a b : ℕ) → length (slice_range xs a b) ≡ min (b - a) (length xs - a)
range_length xs a b = length-take (b - a) (drop a xs) ∙ ap (min (b - a)) (length-drop a xs)

first_length : (d : DatagramParts) (most : ℕ) → length (piece d most 0).bytes ≡ min (length d.bytes) most
first_length d most =
    let long = range_length d.bytes (0 * most) ((0 + 1) * most) in
    let none : 0 * most ≡ 0 = omega arith in
    let single = one-mul most in
    omega arith

piece_length : (d : DatagramParts) (most j : ℕ) → length (piece d most j).bytes ≤ min (length d.bytes) most
piece_length d most j =
    let long = range_length d.bytes (j * most) ((j + 1) * most) in
    let split = add-mul j 1 most in
    let single = one-mul most in
    omega arith

-- a datagram is long where its first packet is
pub first_is_long : (d : DatagramParts) (most : ℕ) → IsKey d.key
    → IsTrue (are_long d.source d.destination (length d.bytes) most) ↔ (65535 < length (packet_of (piece d most 0)))
first_is_long d most key =
    let whole = packet_length (piece d most 0) key in
    let first = first_length d most in
    (λ long. grind (arith, nat_tests, whole, first, long), λ more. grind (arith, nat_tests, whole, first, more))

-- none is longer than the first
pub first_is_longest : (d : DatagramParts) (most j : ℕ) → IsKey d.key
    → length (packet_of (piece d most j)) ≤ length (packet_of (piece d most 0))
first_is_longest d most j key =
    let whole = packet_length (piece d most 0) key in
    let other = packet_length (piece d most j) key in
    let first = first_length d most in
    let short = piece_length d most j in
    omega (arith, whole, other, first, short)

pub ruleset lengths = (first_is_long, first_is_longest)
