-- The header that bytes begin with: there is one, and it says kind and length.
use Rattle.std.proofs.Common.{◌≡◌, ℕ, ◌+◌, ◌≤◌, List, ◌∷◌, length, take, drop, refl, ap, sym, ◌∙◌, arith, length-drop, ◌==◌, cond, ◌*◌, ◌/◌, ◌%◌, ◌<◌, []}
use Rattle.std.proofs.lemmas.List.{take_all}
use Rattle.nb_streams.specs.Places.{StandsAt}
use Rattle.std.specs.Int.{w16, to_be_bytes}
use Rattle.nb_streams.specs.PacketFacts.{stands_same, stands_in_all, stands_in_front, one_number_16, within_16}
use Rattle.nb_names.proofs.LabelsLemmas.{stands_joined}
use Rattle.nb_session.specs.declared.parsing.Header.{Header}
use Rattle.nb_session.specs.declared.packet.Kind.{Kind}
use Rattle.nb_session.specs.declared.packet.Kind.TheVariants.{Message, Request, Positive, Negative, Retarget, Keepalive}
use Rattle.nb_session.specs.Header.{type_of, header_bytes, HasHeader, body_length, IsGood}

-- ---- bytes

-- what stands at an offset and ends with the packet is all from there on
pub stands_to_end : (packet : List ℕ) (at : ℕ) (bytes : List ℕ) → StandsAt packet at bytes → length packet ≤ at + length bytes → drop at packet ≡ bytes
stands_to_end packet at bytes h fits =
    sym (take_all (length bytes) (drop at packet) (omega (arith, length-drop at packet))) ∙ h

-- what stands at the first offset and is as long as the packet is the packet
pub stands_whole : (packet bytes : List ℕ) → StandsAt packet 0 bytes → length packet ≡ length bytes → packet ≡ bytes
stands_whole packet bytes h same = stands_to_end packet 0 bytes h (omega arith)

-- ---- one header

pub header_within : (bytes : List ℕ) (h : Header) → HasHeader bytes h → 4 ≤ length bytes
header_within bytes h x = within_16 bytes 2 h.length x.length

pub one_header : (bytes : List ℕ) (h k : Header) → HasHeader bytes h → HasHeader bytes k → h ≡ k
one_header bytes h k x y =
    let first : h.packet_type ∷ h.flags ∷ [] ≡ k.packet_type ∷ k.flags ∷ [] = stands_same bytes 0 (h.packet_type ∷ h.flags ∷ []) (k.packet_type ∷ k.flags ∷ []) x.first y.first refl in
    let type : h.packet_type ≡ k.packet_type = cc in
    let flags : h.flags ≡ k.flags = cc in
    let long : h.length ≡ k.length = one_number_16 bytes 2 h.length k.length x.length y.length in
    λ i. record { packet_type = type i; flags = flags i; length = long i }

-- the front of bytes has their header
pub header_in_front : (bytes : List ℕ) (count : ℕ) (h : Header) → 4 ≤ count → HasHeader bytes h → HasHeader (take count bytes) h
header_in_front bytes count h fits x = record {
  first = stands_in_front bytes count 0 (h.packet_type ∷ h.flags ∷ []) (omega arith) x.first;
  length = record { fits = x.length.fits; bytes = stands_in_front bytes count 2 (to_be_bytes w16 h.length) (omega arith) x.length.bytes };
}

pub header_in_all : (bytes : List ℕ) (count : ℕ) (h : Header) → 4 ≤ count → HasHeader (take count bytes) h → HasHeader bytes h
header_in_all bytes count h fits x = record {
  first = stands_in_all bytes count 0 (h.packet_type ∷ h.flags ∷ []) (omega arith) x.first;
  length = record { fits = x.length.fits; bytes = stands_in_all bytes count 2 (to_be_bytes w16 h.length) (omega arith) x.length.bytes };
}

-- ---- kind and length

abbrev pub kind_from : ℕ → Kind
kind_from n = cond (n == 0) Message (cond (n == 129) Request (cond (n == 130) Positive (cond (n == 131) Negative (cond (n == 132) Retarget Keepalive))))

pub kind_back : (k : Kind) → kind_from (type_of k) ≡ k
kind_back Message = refl
kind_back Request = refl
kind_back Positive = refl
kind_back Negative = refl
kind_back Retarget = refl
kind_back Keepalive = refl

-- a TYPE is that of one kind
pub one_kind : (a b : Kind) → type_of a ≡ type_of b → a ≡ b
one_kind a b e = sym (kind_back a) ∙ ap kind_from e ∙ kind_back b

-- the bytes of a good header
pub good_header_bytes : (bytes : List ℕ) (h : Header) (k : Kind) → HasHeader bytes h → IsGood h k → StandsAt bytes 0 (header_bytes k (body_length h))
good_header_bytes bytes h k x good =
    let fits : h.length < 65536 = x.length.fits in
    let high : (h.flags % 2 * 65536 + h.length) / 65536 ≡ h.flags = omega (arith, good.flags) in
    let low : (h.flags % 2 * 65536 + h.length) % 65536 ≡ h.length = omega (arith, good.flags) in
    rw (high, low, good.type) (stands_joined bytes 0 (h.packet_type ∷ h.flags ∷ []) (to_be_bytes w16 h.length) x.first x.length.bytes)
