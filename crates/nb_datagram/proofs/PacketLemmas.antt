-- Bytes begin with one packet at most.
use Rattle.nb_datagram.proofs.Common.{◌≡◌, ℕ, ◌+◌, ◌<◌, ◌≤◌, ◌^◌, List, [], ◌∷◌, ◌++◌, length, drop, refl, ap, sym, subst, ◌∙◌, arith, append_assoc, length-append, w16, to_be_bytes, from_be_bytes, Refused, StandsAt, NameAt, NetbiosName, IsName, labels_of_name, stands_same, one_reading, spelling_read, stands_before, FragmentParts, named_length, type_of, kind_of, kind_back, Packet, name_bytes, direct_bytes, packet_bytes, FitsDirect, Fits, IsPacket, header_bytes, IsKey, error_type, query_type, HasType}
use Rattle.std.proofs.Math.Seq.{take-append_seam}
use Rattle.std.proofs.lemmas.Nat.{from_be_bytes-to_be_bytes_2}
use Rattle.nb_names.specs.NameFacts.{fronts_same}
use Rattle.nb_names.proofs.NameLemmas.{name_domain, one_name}
use Rattle.nb_datagram.specs.declared.key.Key.{Key}
use Rattle.nb_datagram.specs.declared.key.Kind.{Kind}
use Rattle.nb_datagram.specs.declared.packet.Packet.TheVariants.{Direct, Error, Query}
use Rattle.nb_datagram.specs.declared.packet.QueryKind.{QueryKind}
use Rattle.nb_datagram.specs.declared.packet.QueryKind.TheVariants.{Request, Positive, Negative}
use Rattle.nb_datagram.proofs.ReadingLemmas.{header_long, kind_range, query_range}

-- ---- what stands in front is one

numbers_same : (m n : ℕ) (x y : List ℕ) → m < 2 ^ 16 → n < 2 ^ 16 → to_be_bytes w16 m ++ x ≡ to_be_bytes w16 n ++ y → (m ≡ n) × (x ≡ y)
numbers_same m n x y small few e =
    let parts = fronts_same (to_be_bytes w16 m) (to_be_bytes w16 n) x y refl e in (
      sym (from_be_bytes-to_be_bytes_2 m small) ∙ ap (λ (bytes : List ℕ). from_be_bytes w16 bytes) parts.0 ∙ from_be_bytes-to_be_bytes_2 n few,
      parts.1,
    )

names_same : (m n : NetbiosName) (x y : List ℕ) → IsName m → IsName n → name_bytes m ++ x ≡ name_bytes n ++ y → (m ≡ n) × (x ≡ y)
names_same m n x y fm fn e =
    let first = spelling_read [] x Refused (labels_of_name m) (name_domain m fm) in
    let second = spelling_read [] y Refused (labels_of_name n) (name_domain n fn) in
    let moved : NameAt (name_bytes m ++ x) Refused 0 (labels_of_name n) (0 + length (name_bytes n)) =
    subst (λ (p : List ℕ). NameAt p Refused 0 (labels_of_name n) (0 + length (name_bytes n))) (sym e) second in
    let same = one_reading (name_bytes m ++ x) Refused 0 0 (labels_of_name m) (labels_of_name n) (0 + length (name_bytes m)) (0 + length (name_bytes n)) first moved in
    (one_name m n same.0, (fronts_same (name_bytes m) (name_bytes n) x y (omega (arith, same.1)) e).1)

pub keys_same : (type flags : ℕ) (key : Key) (kind bits : ℕ) (other : Key) → IsKey key → IsKey other → header_bytes type flags key ≡ header_bytes kind bits other →
    (type ≡ kind) × (flags ≡ bits) × (key ≡ other)
keys_same type flags key kind bits other f g e =
    let tail : to_be_bytes w16 key.id ++ (key.ip ++ to_be_bytes w16 key.port) ≡ to_be_bytes w16 other.id ++ (other.ip ++ to_be_bytes w16 other.port) =
    ap (λ (l : List ℕ). drop 2 l) e in
    let id = numbers_same key.id other.id (key.ip ++ to_be_bytes w16 key.port) (other.ip ++ to_be_bytes w16 other.port) f.id g.id tail in
    let ip = fronts_same key.ip other.ip (to_be_bytes w16 key.port) (to_be_bytes w16 other.port) (f.ip ∙ sym g.ip) id.1 in
    let port = numbers_same key.port other.port [] [] f.port g.port (ap (λ (l : List ℕ). l ++ []) ip.1) in
    (cc, cc, λ i. record { ip = ip.0 i; port = port.0 i; id = id.0 i })

-- after the header stands the same too
pub headers_same : (type flags : ℕ) (key : Key) (kind bits : ℕ) (other : Key) (x y bytes more others : List ℕ) → IsKey key → IsKey other →
    bytes ≡ (header_bytes type flags key ++ x) ++ more → bytes ≡ (header_bytes kind bits other ++ y) ++ others →
    (type ≡ kind) × (flags ≡ bits) × (key ≡ other) × (x ++ more ≡ y ++ others)
headers_same type flags key kind bits other x y bytes more others f g p q =
    let one = sym (append_assoc (header_bytes type flags key) x more) ∙ sym p ∙ q ∙ append_assoc (header_bytes kind bits other) y others in
    let parts = fronts_same (header_bytes type flags key) (header_bytes kind bits other) (x ++ more) (y ++ others) (header_long type flags key f.ip ∙ sym (header_long kind bits other g.ip)) one in
    let same = keys_same type flags key kind bits other f g parts.0 in
    (same.0, same.1, same.2, parts.1)

-- ---- types

-- the type of a packet
abbrev pub packet_type : Packet → ℕ
packet_type (Direct f) = type_of f.kind
packet_type (Error e) = error_type
packet_type (Query q) = query_type q.kind

pub one_type : (bytes : List ℕ) (t u : ℕ) → HasType bytes t → HasType bytes u → t ≡ u
one_type bytes t u a b = let same = stands_same bytes 0 (t ∷ []) (u ∷ []) a.first b.first refl in cc

-- what a packet begins with, stands there
begun : (bytes xs ys rest : List ℕ) → bytes ≡ (xs ++ ys) ++ rest → StandsAt bytes 0 xs
begun bytes xs ys rest e = subst (λ (b : List ℕ). StandsAt b 0 xs) (sym (e ∙ append_assoc xs ys rest)) (take-append_seam xs (ys ++ rest))

header_there : (bytes : List ℕ) (type flags : ℕ) (key : Key) (body rest : List ℕ) → IsKey key → bytes ≡ (header_bytes type flags key ++ body) ++ rest → HasType bytes type
header_there bytes type flags key body rest formed e = record {
  whole = omega (arith, ap length e, length-append (header_bytes type flags key ++ body) rest, length-append (header_bytes type flags key) body, header_long type flags key formed.ip);
  first = stands_before bytes 0 (type ∷ []) (flags ∷ (to_be_bytes w16 key.id ++ (key.ip ++ to_be_bytes w16 key.port))) (begun bytes (header_bytes type flags key) body rest e);
}

pub packet_has_type : (bytes : List ℕ) (v : Packet) (n : ℕ) → IsPacket bytes v n → HasType bytes (packet_type v)
packet_has_type bytes (Direct f) n p = header_there bytes (type_of f.kind) f.flags f.key (direct_bytes f) p.rest p.fits.key p.whole
packet_has_type bytes (Error e) n p = header_there bytes error_type e.flags e.key (e.code ∷ []) p.rest p.fits p.whole
packet_has_type bytes (Query q) n p = header_there bytes (query_type q.kind) q.flags q.key (name_bytes q.destination) p.rest p.fits.0 p.whole

-- ---- each kind of packet is one

one_kind : (a b : Kind) → type_of a ≡ type_of b → a ≡ b
one_kind a b e = sym (kind_back a) ∙ ap kind_of e ∙ kind_back b

one_query : (a b : QueryKind) → query_type a ≡ query_type b → a ≡ b
one_query Request Request e = refl
one_query Request Positive e = absurd (omega (arith, e))
one_query Request Negative e = absurd (omega (arith, e))
one_query Positive Request e = absurd (omega (arith, e))
one_query Positive Positive e = refl
one_query Positive Negative e = absurd (omega (arith, e))
one_query Negative Request e = absurd (omega (arith, e))
one_query Negative Positive e = absurd (omega (arith, e))
one_query Negative Negative e = refl

-- the bytes after the header of a fragment's packet, one field after the other
pub direct_behind : (f : FragmentParts) (rest : List ℕ) → direct_bytes f ++ rest
    ≡ to_be_bytes w16 (named_length f.source f.destination f.bytes) ++ (to_be_bytes w16 f.offset ++ (name_bytes f.source ++ (name_bytes f.destination ++ (f.bytes ++ rest))))
direct_behind f rest =
    append_assoc (to_be_bytes w16 (named_length f.source f.destination f.bytes)) (to_be_bytes w16 f.offset ++ (name_bytes f.source ++ (name_bytes f.destination ++ f.bytes))) rest
    ∙ ap (λ (l : List ℕ). to_be_bytes w16 (named_length f.source f.destination f.bytes) ++ l)
    (append_assoc (to_be_bytes w16 f.offset) (name_bytes f.source ++ (name_bytes f.destination ++ f.bytes)) rest
    ∙ ap (λ (l : List ℕ). to_be_bytes w16 f.offset ++ l)
    (append_assoc (name_bytes f.source) (name_bytes f.destination ++ f.bytes) rest ∙ ap (λ (l : List ℕ). name_bytes f.source ++ l) (append_assoc (name_bytes f.destination) f.bytes rest)))

one_direct : (f g : FragmentParts) (x y : List ℕ) → FitsDirect f → FitsDirect g → type_of f.kind ≡ type_of g.kind → f.flags ≡ g.flags → f.key ≡ g.key →
    direct_bytes f ++ x ≡ direct_bytes g ++ y → f ≡ g
one_direct f g x y a b type flags key e =
    let parts = sym (direct_behind f x) ∙ e ∙ direct_behind g y in
    let low = a.short in
    let few = b.short in
    let size = numbers_same (named_length f.source f.destination f.bytes) (named_length g.source g.destination g.bytes) _ _ (omega arith) (omega arith) parts in
    let offset = numbers_same f.offset g.offset _ _ a.offset b.offset size.1 in
    let source = names_same f.source g.source _ _ a.source b.source offset.1 in
    let destination = names_same f.destination g.destination _ _ a.destination b.destination source.1 in
    let long = ap (λ (n : NetbiosName). length (name_bytes n)) source.0 in
    let wide = ap (λ (n : NetbiosName). length (name_bytes n)) destination.0 in
    let bytes = fronts_same f.bytes g.bytes x y (omega (arith, size.0, long, wide)) destination.1 in
    let kind = one_kind f.kind g.kind type in
    λ i. record {
      kind = kind i;
      flags = flags i;
      key = key i;
      offset = offset.0 i;
      source = source.0 i;
      destination = destination.0 i;
      bytes = bytes.0 i;
    }

one_value : (bytes : List ℕ) (v w : Packet) (x y : List ℕ) → Fits v → Fits w → packet_type v ≡ packet_type w → bytes ≡ packet_bytes v ++ x → bytes ≡ packet_bytes w ++ y → v ≡ w
one_value bytes (Direct f) (Direct g) x y a b type p q =
    let h = headers_same (type_of f.kind) f.flags f.key (type_of g.kind) g.flags g.key (direct_bytes f) (direct_bytes g) bytes x y a.key b.key p q in
    ap Direct (one_direct f g x y a b h.0 h.1 h.2 h.3)
one_value bytes (Direct f) (Error e) x y a b type p q = absurd (omega (arith, type, (kind_range f.kind).1))
one_value bytes (Direct f) (Query r) x y a b type p q = absurd (omega (arith, type, (kind_range f.kind).1, (query_range r.kind).0))
one_value bytes (Error e) (Direct g) x y a b type p q = absurd (omega (arith, type, (kind_range g.kind).1))
one_value bytes (Error e) (Error d) x y a b type p q =
    let h = headers_same error_type e.flags e.key error_type d.flags d.key (e.code ∷ []) (d.code ∷ []) bytes x y a b p q in
    let behind = h.3 in
    let flags = h.1 in
    let key = h.2 in
    let code : e.code ≡ d.code = cc in
    ap Error (λ i. record { flags = flags i; key = key i; code = code i })
one_value bytes (Error e) (Query r) x y a b type p q = absurd (omega (arith, type, (query_range r.kind).0))
one_value bytes (Query r) (Direct g) x y a b type p q = absurd (omega (arith, type, (kind_range g.kind).1, (query_range r.kind).0))
one_value bytes (Query r) (Error e) x y a b type p q = absurd (omega (arith, type, (query_range r.kind).0))
one_value bytes (Query r) (Query s) x y a b type p q =
    let h = headers_same (query_type r.kind) r.flags r.key (query_type s.kind) s.flags s.key (name_bytes r.destination) (name_bytes s.destination) bytes x y a.0 b.0 p q in
    let flags = h.1 in
    let key = h.2 in
    let kind = one_query r.kind s.kind h.0 in
    let name = names_same r.destination s.destination x y a.1 b.1 h.3 in
    ap Query (λ i. record { kind = kind i; flags = flags i; key = key i; destination = name.0 i })

pub one_packet : (bytes : List ℕ) (v w : Packet) (m n : ℕ) → IsPacket bytes v m → IsPacket bytes w n → (v ≡ w) × (m ≡ n)
one_packet bytes v w m n a b =
    let type = one_type bytes (packet_type v) (packet_type w) (packet_has_type bytes v m a) (packet_has_type bytes w n b) in
    let same = one_value bytes v w a.rest b.rest a.fits b.fits type a.whole b.whole in
    (same, a.counted ∙ ap (λ (p : Packet). length (packet_bytes p)) same ∙ sym b.counted)

-- a packet is within its bytes
pub packet_within : (bytes : List ℕ) (v : Packet) (n : ℕ) → IsPacket bytes v n → n ≤ length bytes
packet_within bytes v n a = omega (arith, a.counted, ap length a.whole, length-append (packet_bytes v) a.rest)
