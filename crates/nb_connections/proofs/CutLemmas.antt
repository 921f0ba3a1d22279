-- Packets that stand one after another.
use Rattle.std.proofs.Common.{ℕ, ◌+◌, ◌<◌, ◌≤◌, List, [], ◌∷◌, ◌++◌, length, take, drop, ap, sym, subst, arith, append_assoc, append-nil}
use Rattle.std.proofs.Math.Seq.{take-add}
use Rattle.std.proofs.lemmas.List.{length-take-le}
use Rattle.nb_session.specs.declared.parsing.Parsed.TheVariants.{Whole, More}
use Rattle.nb_session.specs.Cutting.{ArePackets, no_packet, one_more}
use Rattle.nb_session.specs.Packet.{Packet, IsPacket}
use Rattle.nb_session.specs.Parsing.{Parses, body_lacks, header_lacks, whole}
use Rattle.nb_session.specs.declared.limits.TheConstants.{MAX_PACKET}

pub joined : (ps qs : List Packet) (f g : List ℕ) → ArePackets ps f → ArePackets qs g → ArePackets (ps ++ qs) (f ++ g)
joined ps qs f g no_packet b = b
joined ps qs f g (one_more p ps' x y is more) b =
    subst (λ (bytes : List ℕ). ArePackets (p ∷ (ps' ++ qs)) bytes) (sym (append_assoc x y g)) (one_more p (ps' ++ qs) x (y ++ g) is (joined ps' qs y g more b))

single : (p : Packet) (bytes : List ℕ) → IsPacket p bytes → ArePackets (p ∷ []) bytes
single p bytes is = subst (ArePackets (p ∷ [])) (append-nil bytes) (one_more p [] bytes [] is no_packet)

stands_whole : (bytes : List ℕ) (p : Packet) (used : ℕ) → Parses bytes (Whole p used) → (used ≤ length bytes) × IsPacket p (take used bytes)
stands_whole bytes p used (whole w n fits is) = (fits, is)

has_bytes : (p : Packet) (bytes : List ℕ) → IsPacket p bytes → 0 < length bytes
has_bytes p bytes is = let e = ap length is.exact in omega (arith, e)

-- a whole packet takes up some bytes, and no more than there are
pub used_within : (bytes : List ℕ) (p : Packet) (used : ℕ) → Parses bytes (Whole p used) → (0 < used) × (used ≤ length bytes)
used_within bytes p used stands =
    let whole = stands_whole bytes p used stands in
    let some = has_bytes p (take used bytes) whole.1 in
    let size = length-take-le used bytes whole.0 in
    (omega (arith, some, size), whole.0)

-- whole packets up to a place, and one more there
pub one_more_whole : (bytes : List ℕ) (ps : List Packet) (end used : ℕ) (p : Packet) → ArePackets ps (take end bytes)
    → Parses (drop end bytes) (Whole p used) → ArePackets (ps ++ p ∷ []) (take (end + used) bytes)
one_more_whole bytes ps end used p are stands =
    let is = (stands_whole (drop end bytes) p used stands).1 in
    subst (λ (b : List ℕ). ArePackets (ps ++ p ∷ []) b) (sym (take-add end used bytes)) (joined ps (p ∷ []) (take end bytes) (take used (drop end bytes)) are (single p (take used (drop end bytes)) is))

-- a packet that is awaited is no longer than one may be
pub within_packet : (bytes : List ℕ) (needed : ℕ) → Parses bytes (More needed) → length bytes + needed ≤ MAX_PACKET
within_packet bytes needed (header_lacks less) = omega (arith, less)
within_packet bytes needed (body_lacks header kind has good less) = let flags = good.flags in let fits = has.length.fits in omega (arith, less, flags, fits)
