-- The bytes of a packet have a good header, and are those of no other packet.
use Rattle.std.proofs.Common.{◌≡◌, ℕ, ◌+◌, ◌/◌, ◌%◌, ◌<◌, ◌≤◌, List, [], ◌++◌, length, refl, ap, sym, subst, ◌∙◌, arith, length-append, drop, append_assoc, append-nil}
use Rattle.std.specs.Int.{w16, to_be_bytes, from_be_bytes}
use Rattle.nb_names.specs.declared.reading.Pointers.TheVariants.{Refused}
use Rattle.nb_names.specs.DomainName.{spelling}
use Rattle.nb_names.specs.FirstLevel.{letters}
use Rattle.nb_streams.specs.Places.{StandsAt}
use Rattle.nb_names.specs.Labels.{NameAt}
use Rattle.nb_names.specs.Name.{NetbiosName, IsName, labels_of_name}
use Rattle.nb_names.specs.NameFacts.{spelling-some, fronts_same}
use Rattle.nb_names.proofs.FirstLevelLemmas.{length-letters}
use Rattle.nb_names.proofs.LabelsLemmas.{one_reading, spelling_read, stands_joined, spelled_there}
use Rattle.nb_names.proofs.NameLemmas.{name_domain, one_name}
use Rattle.nb_session.specs.declared.parsing.Header.{Header}
use Rattle.nb_session.specs.declared.packet.Kind.{Kind}
use Rattle.nb_session.specs.declared.packet.Kind.TheVariants.{Request as request, Message as message, Positive as positive, Negative as negative, Retarget as retarget, Keepalive as keepalive}
use Rattle.nb_session.specs.declared.packet.Packet.TheVariants.{Message, Request, Positive, Negative, Retarget, Keepalive}
use Rattle.nb_session.specs.Header.{type_of, MayHave, header_bytes, HasHeader, body_length, packet_length, IsGood}
use Rattle.nb_session.specs.Packet.{Packet, kind_of, body_of, IsFormed, IsPacket}
use Rattle.nb_session.proofs.HeaderLemmas.{stands_whole, good_header_bytes, one_header, one_kind}
use Rattle.std.proofs.lemmas.List.{drop_at}
use Rattle.std.proofs.lemmas.Nat.{from_be_bytes-to_be_bytes_2}

-- ---- names and their lengths

-- the spelling of a name has 34 to 255 bytes
pub name_length : (name : NetbiosName) → IsName name → (34 ≤ length (spelling (labels_of_name name))) × (length (spelling (labels_of_name name)) ≤ 255)
name_length name is =
    let two = length-letters name.bytes in
    let rest = length-append (letters name.bytes) (spelling name.scope) in
    (omega (arith, two, rest, is.sixteen, spelling-some name.scope), (name_domain name is).short)

-- ---- a packet's header

-- the body of a packet has a length that its kind may have, of seventeen bits
pub body_fits : (v : Packet) → IsFormed v → MayHave (kind_of v) (length (body_of v)) × (length (body_of v) < 131072)
body_fits (Message contents) f = (tt, omega (arith, f))
body_fits (Request called calling) f =
    let one = name_length called f.0 in
    let two = name_length calling f.1 in
    let both = length-append (spelling (labels_of_name called)) (spelling (labels_of_name calling)) in
    ((omega (arith, both, one.0, two.0), omega (arith, both, one.1, two.1)), omega (arith, both, one.1, two.1))
body_fits Positive f = (refl, omega arith)
body_fits (Negative code) f = (refl, omega arith)
body_fits (Retarget address port) f =
    let six : length (address ++ to_be_bytes w16 port) ≡ 6 = omega (arith, length-append address (to_be_bytes w16 port), f.0) in
    (six, omega (arith, six))
body_fits Keepalive f = (refl, omega arith)

-- the header of a kind and a length
abbrev pub header_of : Kind → ℕ → Header
header_of k n = record { packet_type = type_of k; flags = n / 65536; length = n % 65536 }

pub body_length-header_of : (k : Kind) (n : ℕ) → n < 131072 → body_length (header_of k n) ≡ n
body_length-header_of k n fits = omega arith

pub header_stands : (bytes : List ℕ) (k : Kind) (n : ℕ) (rest : List ℕ) → bytes ≡ header_bytes k n ++ rest → HasHeader bytes (header_of k n)
header_stands bytes k n rest e = rw e (record { first = refl; length = record { fits = omega arith; bytes = refl } })

pub header_good : (k : Kind) (n : ℕ) → n < 131072 → MayHave k n → IsGood (header_of k n) k
header_good k n fits may = record {
  type = refl;
  flags = omega arith;
  length = rw (body_length-header_of k n fits) may;
}

-- a packet's bytes have a good header of its kind, and the length that it says
pub record Headed (v : Packet) (bytes : List ℕ) : Type 0 where
  pub header : Header
  pub has : HasHeader bytes header
  pub good : IsGood header (kind_of v)
  pub long : length bytes ≡ packet_length header
  pub body : body_length header ≡ length (body_of v)

pub packet_headed : (v : Packet) (bytes : List ℕ) → IsPacket v bytes → Headed v bytes
packet_headed v bytes p =
    let fits = body_fits v p.formed in
    let n = length (body_of v) in
    let is : body_length (header_of (kind_of v) n) ≡ n = body_length-header_of (kind_of v) n fits.1 in
    let count : length bytes ≡ 4 + n = ap length p.exact ∙ length-append (header_bytes (kind_of v) n) (body_of v) in
    record {
      header = header_of (kind_of v) n;
      has = header_stands bytes (kind_of v) n (body_of v) p.exact;
      good = header_good (kind_of v) n fits.1 fits.0;
      long = omega (arith, count, is);
      body = is;
    }

-- bytes with a good header, and after it the body of a packet of that kind, are that packet
pub packet_made : (bytes : List ℕ) (h : Header) (v : Packet) → HasHeader bytes h → IsGood h (kind_of v) → length bytes ≡ packet_length h → IsFormed v →
    StandsAt bytes 4 (body_of v) → length (body_of v) ≡ body_length h → IsPacket v bytes
packet_made bytes h v has good long formed there same =
    let front : StandsAt bytes 0 (header_bytes (kind_of v) (length (body_of v))) =
    subst (λ (n : ℕ). StandsAt bytes 0 (header_bytes (kind_of v) n)) (sym same) (good_header_bytes bytes h (kind_of v) has good) in
    let both = stands_joined bytes 0 (header_bytes (kind_of v) (length (body_of v))) (body_of v) front there in
    record {
      formed = formed;
      exact = stands_whole bytes (header_bytes (kind_of v) (length (body_of v)) ++ body_of v) both
          (omega (arith, long, same, length-append (header_bytes (kind_of v) (length (body_of v))) (body_of v)));
    }

-- two names that are read after a request's header, up to the packet's end, make the request
pub request_made : (bytes : List ℕ) (h : Header) (called calling : NetbiosName) (behind end : ℕ) → HasHeader bytes h → IsGood h request → length bytes ≡ packet_length h →
    IsName called → IsName calling → NameAt bytes Refused 4 (labels_of_name called) behind → NameAt bytes Refused behind (labels_of_name calling) end →
    length bytes ≡ end → IsPacket (Request called calling) bytes
request_made bytes h called calling behind end has good long one two first second last =
    let a = spelled_there bytes 4 4 (labels_of_name called) behind first in
    let b = spelled_there bytes behind behind (labels_of_name calling) end second in
    let there = stands_joined bytes 4 (spelling (labels_of_name called)) (spelling (labels_of_name calling)) a.0 (subst (λ (n : ℕ). StandsAt bytes n (spelling (labels_of_name calling))) a.1 b.0) in
    packet_made bytes h (Request called calling) has good long (one, two) there
    (omega (arith, long, last, a.1, b.1, length-append (spelling (labels_of_name called)) (spelling (labels_of_name calling))))

-- ---- the names of a request

-- the names of a request are read where they stand
pub request_read : (called calling : NetbiosName) (bytes : List ℕ) → IsPacket (Request called calling) bytes →
    let behind : ℕ = 4 + length (spelling (labels_of_name called)) in
    NameAt bytes Refused 4 (labels_of_name called) behind × NameAt bytes Refused behind (labels_of_name calling) (length bytes)
request_read called calling bytes p =
    let one : List ℕ = spelling (labels_of_name called) in
    let two : List ℕ = spelling (labels_of_name calling) in
    let head : List ℕ = header_bytes request (length (one ++ two)) in
    let first = spelling_read head two Refused (labels_of_name called) (name_domain called p.formed.0) in
    let second = spelling_read (head ++ one) [] Refused (labels_of_name calling) (name_domain calling p.formed.1) in
    let whole : (head ++ one) ++ (two ++ []) ≡ bytes = ap (λ (r : List ℕ). (head ++ one) ++ r) (append-nil two) ∙ append_assoc head one two ∙ sym p.exact in
    let place : length (head ++ one) ≡ 4 + length one = length-append head one in
    let last : length (head ++ one) + length two ≡ length bytes = omega (arith, ap length p.exact, length-append head (one ++ two), length-append one two, place) in (
      subst (λ (b : List ℕ). NameAt b Refused 4 (labels_of_name called) (4 + length one)) (sym p.exact) first,
      subst (λ (n : ℕ). NameAt bytes Refused n (labels_of_name calling) (length bytes)) place
          (subst (λ (n : ℕ). NameAt bytes Refused (length (head ++ one)) (labels_of_name calling) n) last
          (subst (λ (b : List ℕ). NameAt b Refused (length (head ++ one)) (labels_of_name calling) (length (head ++ one) + length two)) whole second)),
    )

-- ---- one packet

data View : Packet → Kind → Type 0 where
  a_message : (contents : List ℕ) → View (Message contents) message
  a_request : (called calling : NetbiosName) → View (Request called calling) request
  a_positive : View Positive positive
  a_negative : (code : ℕ) → View (Negative code) negative
  a_retarget : (address : List ℕ) (port : ℕ) → View (Retarget address port) retarget
  a_keepalive : View Keepalive keepalive

view : (v : Packet) → View v (kind_of v)
view (Message contents) = a_message contents
view (Request called calling) = a_request called calling
view Positive = a_positive
view (Negative code) = a_negative code
view (Retarget address port) = a_retarget address port
view Keepalive = a_keepalive

same_of_kind : (v w : Packet) (k : Kind) (bytes : List ℕ) → View v k → View w k → IsPacket v bytes → IsPacket w bytes → body_of v ≡ body_of w → v ≡ w
same_of_kind v w k bytes (a_message a) (a_message b) p q e = cc
same_of_kind v w k bytes (a_request a b) (a_request c d) p q e =
    let one = request_read a b bytes p in
    let two = request_read c d bytes q in
    let first = one_reading bytes Refused 4 4 (labels_of_name a) (labels_of_name c) _ _ one.0 two.0 in
    let second = one_reading bytes Refused (4 + length (spelling (labels_of_name c))) (4 + length (spelling (labels_of_name c))) (labels_of_name b) (labels_of_name d) _ _
    (subst (λ (n : ℕ). NameAt bytes Refused n (labels_of_name b) (length bytes)) first.1 one.1) two.1 in
    let called : a ≡ c = one_name a c first.0 in
    let calling : b ≡ d = one_name b d second.0 in
    cc
same_of_kind v w k bytes a_positive a_positive p q e = refl
same_of_kind v w k bytes (a_negative a) (a_negative b) p q e = cc
same_of_kind v w k bytes (a_retarget a m) (a_retarget b n) p q e =
    let parts = fronts_same a b (to_be_bytes w16 m) (to_be_bytes w16 n) (p.formed.0 ∙ sym q.formed.0) e in
    let port : m ≡ n = sym (from_be_bytes-to_be_bytes_2 m p.formed.1) ∙ ap (λ (bytes : List ℕ). from_be_bytes w16 bytes) parts.1 ∙ from_be_bytes-to_be_bytes_2 n q.formed.1 in
    let address = parts.0 in
    cc
same_of_kind v w k bytes a_keepalive a_keepalive p q e = refl

-- the kind and the body of a packet are fixed by its bytes
same_kind : (v w : Packet) (bytes : List ℕ) → IsPacket v bytes → IsPacket w bytes → kind_of v ≡ kind_of w
same_kind v w bytes p q =
    let x = packet_headed v bytes p in
    let y = packet_headed w bytes q in
    let header : x.header ≡ y.header = one_header bytes x.header y.header x.has y.has in
    one_kind (kind_of v) (kind_of w) (x.good.type ∙ ap (λ (h : Header). h.packet_type) header ∙ sym y.good.type)

same_body : (v w : Packet) (bytes : List ℕ) → IsPacket v bytes → IsPacket w bytes → body_of v ≡ body_of w
same_body v w bytes p q =
    sym (drop_at (header_bytes (kind_of v) (length (body_of v))) (body_of v) 4 refl)
    ∙ ap (λ (b : List ℕ). drop 4 b) (sym p.exact ∙ q.exact)
    ∙ drop_at (header_bytes (kind_of w) (length (body_of w))) (body_of w) 4 refl

pub one_value : (v w : Packet) (bytes : List ℕ) → IsPacket v bytes → IsPacket w bytes → v ≡ w
one_value v w bytes p q =
    same_of_kind v w (kind_of w) bytes (subst (View v) (same_kind v w bytes p q) (view v)) (view w) p q (same_body v w bytes p q)
