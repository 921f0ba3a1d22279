-- The text of a session packet tells the packet.
use Rattle.std.proofs.Common.{◌≡◌, ℕ, ◌<◌, ◌≤◌, ◌^◌, List, length, take, refl, ap, ap₂, subst, arith, codes}
use Rattle.std.specs.Int.{w16, to_be_bytes}
use Rattle.nb_names.specs.DomainName.{spelling}
use Rattle.nb_streams.specs.Places.{AreBytes}
use Rattle.nb_names.specs.Name.{NetbiosName, IsName, labels_of_name}
use Rattle.nb_session.specs.declared.packet.Packet.TheVariants.{Message, Request, Positive, Negative, Retarget, Keepalive}
use Rattle.nb_session.specs.declared.parsing.Parsed.TheVariants.{Whole}
use Rattle.nb_session.specs.Header.{header_bytes}
use Rattle.nb_session.specs.Packet.{Packet, IsFormed, IsPacket, body_of, kind_of}
use Rattle.nb_session.specs.Parsing.{Parses, whole}
use Rattle.nb_text.specs.Lines.{used_text}
use Rattle.nb_text.specs.SessionText.{parts_text, session_text}
use Rattle.nb_text.proofs.MidLemmas.{bytes-split, spelled_name}
use Rattle.nb_text.proofs.FieldLemmas.{bytes-take}
use Rattle.nb_text.proofs.FieldTells.{number_tells, code_tells, data_tells, address_tells, name_tells}
use Rattle.nb_text.proofs.TellLemmas.{Tells, space, field_then, after_tells, same_tells, differ_tells, tells_then}

message_tells : (xs ys : List ℕ) → length xs ≤ 131071 → length ys ≤ 131071 → AreBytes xs → AreBytes ys
    → Tells (parts_text (Message xs)) (parts_text (Message ys)) (◌≡◌ {A = Packet} (Message xs) (Message ys))
message_tells xs ys p q a b =
    tells_then
    (field_then (codes "message length=") (number_tells (length xs) (length ys) (omega (arith, p)) (omega (arith, q)))
    (after_tells (codes " data=") (data_tells xs ys a b)) space space)
    (λ h. ap Message h.1)

request_tells : (called calling other another : NetbiosName) → IsName called × IsName calling → IsName other × IsName another
    → AreBytes (body_of (Request called calling)) → AreBytes (body_of (Request other another))
    → Tells (parts_text (Request called calling)) (parts_text (Request other another)) (Request called calling ≡ Request other another)
request_tells called calling other another p q a b =
    let here = bytes-split (spelling (labels_of_name called)) (spelling (labels_of_name calling)) a in
    let there = bytes-split (spelling (labels_of_name other)) (spelling (labels_of_name another)) b in
    tells_then
    (field_then (codes "request called=") (name_tells called other (spelled_name called p.0 here.0) (spelled_name other q.0 there.0))
    (after_tells (codes " calling=") (name_tells calling another (spelled_name calling p.1 here.1) (spelled_name another q.1 there.1))) space space)
    (λ h. ap₂ Request h.0 h.1)

retarget_tells : (ip other : List ℕ) (port another : ℕ) → (length ip ≡ 4) × (port < 2 ^ 16) → (length other ≡ 4) × (another < 2 ^ 16)
    → AreBytes (body_of (Retarget ip port)) → AreBytes (body_of (Retarget other another))
    → Tells (parts_text (Retarget ip port)) (parts_text (Retarget other another)) (◌≡◌ {A = Packet} (Retarget ip port) (Retarget other another))
retarget_tells ip other port another p q a b =
    let here = (bytes-split ip (to_be_bytes w16 port) a).0 in
    let there = (bytes-split other (to_be_bytes w16 another) b).0 in
    let small = p.1 in
    let low = q.1 in
    tells_then
    (field_then (codes "retarget address=") (address_tells ip other (p.0, here) (q.0, there))
    (after_tells (codes " port=") (number_tells port another (omega (arith, small)) (omega (arith, low)))) space space)
    (λ h. ap₂ Retarget h.0 h.1)

packet_tells : (a b : Packet) → IsFormed a → IsFormed b → AreBytes (body_of a) → AreBytes (body_of b)
    → Tells (parts_text a) (parts_text b) (a ≡ b)
packet_tells (Message xs) (Message ys) p q a b = message_tells xs ys p q a b
packet_tells (Request called calling) (Request other another) p q a b = request_tells called calling other another p q a b
packet_tells Positive Positive p q a b = tells_then (same_tells (codes "positive") (codes "positive") refl) (λ _. refl)
packet_tells (Negative c) (Negative d) p q a b = tells_then (after_tells (codes "negative code=") (code_tells c d a.0 b.0)) (ap Negative)
packet_tells (Retarget ip port) (Retarget other another) p q a b = retarget_tells ip other port another p q a b
packet_tells Keepalive Keepalive p q a b = tells_then (same_tells (codes "keepalive") (codes "keepalive") refl) (λ _. refl)
packet_tells x y p q a b = differ_tells (parts_text x) (parts_text y) (λ r s. refl)

-- a packet that stands in bytes is formed, and of bytes
packet_stands : (payload : List ℕ) (packet : Packet) (used : ℕ) → Parses payload (Whole packet used) → IsPacket packet (take used payload)
packet_stands payload packet used (whole v n fits is) = is

pub body_stands : (payload : List ℕ) (packet : Packet) (used : ℕ) → AreBytes payload → IsPacket packet (take used payload) → AreBytes (body_of packet)
body_stands payload packet used a is =
    (bytes-split (header_bytes (kind_of packet) (length (body_of packet))) (body_of packet) (subst AreBytes is.exact (bytes-take used payload a))).1

pub session_tells : (payload other : List ℕ) (packet same : Packet) (used after shown again : ℕ) → AreBytes payload → AreBytes other
    → Parses payload (Whole packet used) → Parses other (Whole same after)
    → session_text (Whole packet shown) ≡ session_text (Whole same again) → packet ≡ same
session_tells payload other packet same used after shown again a b here there e =
    let one = packet_stands payload packet used here in
    let two = packet_stands other same after there in
    let tells = packet_tells packet same one.formed two.formed (body_stands payload packet used a one) (body_stands other same after b two) in
    (tells.told (used_text shown) (used_text again) space space e).0
