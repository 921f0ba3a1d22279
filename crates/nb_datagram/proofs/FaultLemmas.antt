-- Where bytes have a fault they begin with no packet, and have no other fault.
use Rattle.nb_datagram.proofs.Common.{◌≡◌, ℕ, ◌+◌, ◌≤◌, inl, inr, List, [], ◌∷◌, ◌++◌, length, take, refl, ap, sym, subst, ◌∙◌, arith, append_assoc, length-append, take_at, w16, to_be_bytes, Refused, StandsAt, NumberAt, NameAt, NetbiosName, IsName, labels_of_name, one_number_16, one_reading, spelling_read, stands_before, stands_behind, FragmentParts, named_length, type_of, Packet, name_bytes, direct_bytes, packet_bytes, IsPacket, header_bytes, IsKey, error_type, query_type, IsUnknownType, NamesFail, in_source, in_destination, DirectFails, no_fields, no_data, in_names, PacketFails, no_header, no_type, direct_fails, no_code, query_fails}
use Rattle.std.proofs.Math.Seq.{take-append_seam}
use Rattle.std.specs.Prelude.{Result, Ok, Err, IfOk, IfErr, IsOkAnd}
use Rattle.nb_names.specs.NameFaults.{NetbiosFaultAt}
use Rattle.nb_names.proofs.FaultLemmas.{one_netbios, no_netbios}
use Rattle.nb_names.proofs.NameLemmas.{name_domain}
use Rattle.nb_datagram.specs.declared.fault.DatagramFault.{DatagramFault}
use Rattle.nb_datagram.specs.declared.fault.DatagramFault.TheVariants.{SourceName, DestinationName}
use Rattle.nb_datagram.specs.declared.packet.Packet.TheVariants.{Direct, Error, Query}
use Rattle.nb_datagram.proofs.ReadingLemmas.{header_long, kind_range, query_range}
use Rattle.nb_datagram.proofs.PacketLemmas.{packet_type, one_type, packet_has_type, one_packet, packet_within}

-- ---- types

type_range : (v : Packet) → (16 ≤ packet_type v) × (packet_type v ≤ 22)
type_range (Direct f) = let r = kind_range f.kind in (r.0, omega (arith, r.1))
type_range (Error e) = (omega arith, omega arith)
type_range (Query q) = let r = query_range q.kind in (omega (arith, r.0), r.1)

-- ---- a packet's names

-- the name after a front of bytes is read there
name_behind : (front : List ℕ) (name : NetbiosName) (rest : List ℕ) (at : ℕ) → IsName name → length front ≡ at →
    NameAt (front ++ (name_bytes name ++ rest)) Refused at (labels_of_name name) (at + length (name_bytes name))
name_behind front name rest at formed long =
    subst (λ (n : ℕ). NameAt (front ++ (name_bytes name ++ rest)) Refused n (labels_of_name name) (n + length (name_bytes name))) long
    (spelling_read front rest Refused (labels_of_name name) (name_domain name formed))

-- the bytes in front of a fragment's names
abbrev front_of : FragmentParts → List ℕ
front_of f =
    header_bytes (type_of f.kind) f.flags f.key ++ (to_be_bytes w16 (named_length f.source f.destination f.bytes) ++ to_be_bytes w16 f.offset)

front_long : (f : FragmentParts) → IsKey f.key → length (front_of f) ≡ 14
front_long f formed =
    omega (
      arith,
      length-append (header_bytes (type_of f.kind) f.flags f.key) (to_be_bytes w16 (named_length f.source f.destination f.bytes) ++ to_be_bytes w16 f.offset),
      header_long (type_of f.kind) f.flags f.key formed.ip,
    )

split_names : (f : FragmentParts) → packet_bytes (Direct f) ≡ front_of f ++ (name_bytes f.source ++ (name_bytes f.destination ++ f.bytes))
split_names f =
    let names : List ℕ = name_bytes f.source ++ (name_bytes f.destination ++ f.bytes) in
    ap (λ (l : List ℕ). header_bytes (type_of f.kind) f.flags f.key ++ l)
    (sym (append_assoc (to_be_bytes w16 (named_length f.source f.destination f.bytes)) (to_be_bytes w16 f.offset) names))
    ∙ sym (append_assoc (header_bytes (type_of f.kind) f.flags f.key) (to_be_bytes w16 (named_length f.source f.destination f.bytes) ++ to_be_bytes w16 f.offset) names)

split_second : (f : FragmentParts) → packet_bytes (Direct f) ≡ (front_of f ++ name_bytes f.source) ++ (name_bytes f.destination ++ f.bytes)
split_second f = split_names f ∙ sym (append_assoc (front_of f) (name_bytes f.source) (name_bytes f.destination ++ f.bytes))

packet_long : (f : FragmentParts) → IsKey f.key → length (packet_bytes (Direct f)) ≡ 14 + named_length f.source f.destination f.bytes
packet_long f formed =
    omega (
      arith,
      ap length (split_names f),
      front_long f formed,
      length-append (front_of f) (name_bytes f.source ++ (name_bytes f.destination ++ f.bytes)),
      length-append (name_bytes f.source) (name_bytes f.destination ++ f.bytes),
      length-append (name_bytes f.destination) f.bytes,
    )

-- what stands of a fragment's packet in bytes that begin with it
pub record FragmentThere (bytes : List ℕ) (f : FragmentParts) : Type 0 where
  pub size : NumberAt bytes 10 w16 (named_length f.source f.destination f.bytes)
  pub whole : 14 + named_length f.source f.destination f.bytes ≤ length bytes
  pub source : NameAt (take (14 + named_length f.source f.destination f.bytes) bytes) Refused 14 (labels_of_name f.source) (14 + length (name_bytes f.source))
  pub destination : NameAt (take (14 + named_length f.source f.destination f.bytes) bytes) Refused (14 + length (name_bytes f.source)) (labels_of_name f.destination) (14 + length (name_bytes f.source) + length (name_bytes f.destination))

fragment_of : (bytes : List ℕ) (f : FragmentParts) (n : ℕ) → IsPacket bytes (Direct f) n → FragmentThere bytes f
fragment_of bytes f n p =
    let size : ℕ = named_length f.source f.destination f.bytes in
    let short = p.fits.short in
    let all = packet_long f p.fits.key in
    let first : take (14 + size) bytes ≡ packet_bytes (Direct f) = ap (λ (b : List ℕ). take (14 + size) b) p.whole ∙ take_at (packet_bytes (Direct f)) p.rest (14 + size) all in
    let place : 0 + length (header_bytes (type_of f.kind) f.flags f.key) ≡ 10 = omega (arith, header_long (type_of f.kind) f.flags f.key p.fits.key.ip) in
    let behind : StandsAt bytes 10 (direct_bytes f) =
    subst (λ (k : ℕ). StandsAt bytes k (direct_bytes f)) place
    (stands_behind bytes 0 (header_bytes (type_of f.kind) f.flags f.key) (direct_bytes f)
    (subst (λ (b : List ℕ). StandsAt b 0 (packet_bytes (Direct f))) (sym p.whole) (take-append_seam (packet_bytes (Direct f)) p.rest))) in
    record {
      size = record {
        fits = omega arith;
        bytes = stands_before bytes 10 (to_be_bytes w16 size) (to_be_bytes w16 f.offset ++ (name_bytes f.source ++ (name_bytes f.destination ++ f.bytes))) behind;
      };
      whole = omega (arith, all, ap length p.whole, length-append (packet_bytes (Direct f)) p.rest);
      source = subst (λ (b : List ℕ). NameAt b Refused 14 (labels_of_name f.source) (14 + length (name_bytes f.source))) (sym (first ∙ split_names f))
          (name_behind (front_of f) f.source (name_bytes f.destination ++ f.bytes) 14 p.fits.source (front_long f p.fits.key));
      destination = subst (λ (b : List ℕ). NameAt b Refused (14 + length (name_bytes f.source)) (labels_of_name f.destination) (14 + length (name_bytes f.source) + length (name_bytes f.destination))) (sym (first ∙ split_second f))
          (name_behind (front_of f ++ name_bytes f.source) f.destination f.bytes (14 + length (name_bytes f.source)) p.fits.destination
          (omega (arith, front_long f p.fits.key, length-append (front_of f) (name_bytes f.source))));
    }

-- ---- a fault or a packet

names_apart : (packet : List ℕ) (fault : DatagramFault) (source destination : NetbiosName) (behind next : ℕ) → IsName source → IsName destination →
    NameAt packet Refused 14 (labels_of_name source) behind → NameAt packet Refused behind (labels_of_name destination) next → NamesFail packet fault → ⊥
names_apart packet fault source destination behind next fs fd a b (in_source f h) = no_netbios packet Refused 14 f source behind h fs a
names_apart packet fault source destination behind next fs fd a b (in_destination other m f formed there h) =
    let same = one_reading packet Refused 14 14 (labels_of_name source) (labels_of_name other) behind m a there in
    no_netbios packet Refused m f destination next h fd (subst (λ (n : ℕ). NameAt packet Refused n (labels_of_name destination) next) same.1 b)

direct_apart : (bytes : List ℕ) (f : FragmentParts) (n : ℕ) (fault : DatagramFault) → IsPacket bytes (Direct f) n → DirectFails bytes fault → ⊥
direct_apart bytes f n fault p (no_fields low) = let there = fragment_of bytes f n p in omega (arith, low, there.whole)
direct_apart bytes f n fault p (no_data size number enough low) =
    let there = fragment_of bytes f n p in
    omega (arith, low, there.whole, one_number_16 bytes 10 size (named_length f.source f.destination f.bytes) number there.size)
direct_apart bytes f n fault p (in_names size number enough h) =
    let there = fragment_of bytes f n p in
    let same = one_number_16 bytes 10 size (named_length f.source f.destination f.bytes) number there.size in
    names_apart (take (14 + named_length f.source f.destination f.bytes) bytes) fault f.source f.destination _ _ p.fits.source p.fits.destination there.source there.destination
    (subst (λ (k : ℕ). NamesFail (take (14 + k) bytes) fault) same h)

-- a packet fails in no way
pub no_packet : (bytes : List ℕ) (v : Packet) (n : ℕ) (fault : DatagramFault) → IsPacket bytes v n → PacketFails bytes fault → ⊥
no_packet bytes v n fault p (no_header low) = let there = packet_has_type bytes v n p in omega (arith, low, there.whole)
no_packet bytes v n fault p (no_type t there unknown) =
    let same = one_type bytes t (packet_type v) there (packet_has_type bytes v n p) in
    let range = type_range v in
    elim unknown [ inl low ↦ omega (arith, same, range.0, low) | inr high ↦ omega (arith, same, range.1, high) ]
no_packet bytes (Direct f) n fault p (direct_fails t there range h) = direct_apart bytes f n fault p h
no_packet bytes (Error e) n fault p (direct_fails t there range h) =
    omega (arith, one_type bytes t error_type there (packet_has_type bytes (Error e) n p), range.1)
no_packet bytes (Query q) n fault p (direct_fails t there range h) =
    omega (arith, one_type bytes t (query_type q.kind) there (packet_has_type bytes (Query q) n p), range.1, (query_range q.kind).0)
no_packet bytes (Direct f) n fault p (no_code there low) =
    omega (arith, one_type bytes error_type (type_of f.kind) there (packet_has_type bytes (Direct f) n p), (kind_range f.kind).1)
no_packet bytes (Error e) n fault p (no_code there low) =
    omega (arith, low, packet_within bytes (Error e) n p, p.counted, length-append (header_bytes error_type e.flags e.key) (e.code ∷ []), header_long error_type e.flags e.key p.fits.ip)
no_packet bytes (Query q) n fault p (no_code there low) =
    omega (arith, one_type bytes error_type (query_type q.kind) there (packet_has_type bytes (Query q) n p), (query_range q.kind).0)
no_packet bytes (Direct f) n fault p (query_fails t g there range h) =
    omega (arith, one_type bytes t (type_of f.kind) there (packet_has_type bytes (Direct f) n p), range.0, (kind_range f.kind).1)
no_packet bytes (Error e) n fault p (query_fails t g there range h) =
    omega (arith, one_type bytes t error_type there (packet_has_type bytes (Error e) n p), range.0)
no_packet bytes (Query q) n fault p (query_fails t g there range h) =
    let whole = p.whole ∙ append_assoc (header_bytes (query_type q.kind) q.flags q.key) (name_bytes q.destination) p.rest in
    let read = name_behind (header_bytes (query_type q.kind) q.flags q.key) q.destination p.rest 10 p.fits.1 (header_long (query_type q.kind) q.flags q.key p.fits.0.ip) in
    no_netbios bytes Refused 10 g q.destination (10 + length (name_bytes q.destination)) h p.fits.1
    (subst (λ (b : List ℕ). NameAt b Refused 10 (labels_of_name q.destination) (10 + length (name_bytes q.destination))) (sym whole) read)

-- ---- one fault

one_names_fault : (packet : List ℕ) (f g : DatagramFault) → NamesFail packet f → NamesFail packet g → f ≡ g
one_names_fault packet f g (in_source a h) (in_source b i) = ap SourceName (one_netbios packet Refused 14 a b h i)
one_names_fault packet f g (in_source a h) (in_destination n m b formed there i) = absurd (no_netbios packet Refused 14 a n m h formed there)
one_names_fault packet f g (in_destination n m a formed there h) (in_source b i) = absurd (no_netbios packet Refused 14 b n m i formed there)
one_names_fault packet f g (in_destination n m a formed there h) (in_destination o k b other stands i) =
    let same = one_reading packet Refused 14 14 (labels_of_name n) (labels_of_name o) m k there stands in
    ap DestinationName (one_netbios packet Refused k a b (subst (λ (x : ℕ). NetbiosFaultAt packet Refused x a) same.1 h) i)

one_direct_fault : (bytes : List ℕ) (f g : DatagramFault) → DirectFails bytes f → DirectFails bytes g → f ≡ g
one_direct_fault bytes f g (no_fields low) (no_fields few) = refl
one_direct_fault bytes f g (no_fields low) (no_data m b enough few) = refl
one_direct_fault bytes f g (no_fields low) (in_names m b enough i) = absurd (omega (arith, low, enough))
one_direct_fault bytes f g (no_data n a some low) (no_fields few) = refl
one_direct_fault bytes f g (no_data n a some low) (no_data m b enough few) = refl
one_direct_fault bytes f g (no_data n a some low) (in_names m b enough i) = absurd (omega (arith, low, enough, one_number_16 bytes 10 n m a b))
one_direct_fault bytes f g (in_names n a some h) (no_fields few) = absurd (omega (arith, few, some))
one_direct_fault bytes f g (in_names n a some h) (no_data m b enough few) = absurd (omega (arith, few, some, one_number_16 bytes 10 n m a b))
one_direct_fault bytes f g (in_names n a some h) (in_names m b enough i) =
    one_names_fault (take (14 + m) bytes) f g (subst (λ (k : ℕ). NamesFail (take (14 + k) bytes) f) (one_number_16 bytes 10 n m a b) h) i

known : (t : ℕ) → IsUnknownType t → (16 ≤ t) × (t ≤ 22) → ⊥
known t (inl low) r = omega (arith, low, r.0)
known t (inr high) r = omega (arith, high, r.1)

pub one_packet_fault : (bytes : List ℕ) (f g : DatagramFault) → PacketFails bytes f → PacketFails bytes g → f ≡ g
one_packet_fault bytes f g (no_header low) (no_header few) = refl
one_packet_fault bytes f g (no_header low) (no_type u there v) = absurd (omega (arith, low, there.whole))
one_packet_fault bytes f g (no_header low) (direct_fails u there r i) = absurd (omega (arith, low, there.whole))
one_packet_fault bytes f g (no_header low) (no_code there few) = refl
one_packet_fault bytes f g (no_header low) (query_fails u b there r i) = absurd (omega (arith, low, there.whole))
one_packet_fault bytes f g (no_type t here u) (no_header few) = absurd (omega (arith, few, here.whole))
one_packet_fault bytes f g (no_type t here u) (no_type s there v) = refl
one_packet_fault bytes f g (no_type t here u) (direct_fails s there r i) = let same = one_type bytes t s here there in absurd (known t u (omega (arith, same, r.0), omega (arith, same, r.1)))
one_packet_fault bytes f g (no_type t here u) (no_code there few) = let same = one_type bytes t error_type here there in absurd (known t u (omega (arith, same), omega (arith, same)))
one_packet_fault bytes f g (no_type t here u) (query_fails s b there r i) = let same = one_type bytes t s here there in absurd (known t u (omega (arith, same, r.0), omega (arith, same, r.1)))
one_packet_fault bytes f g (direct_fails t here q h) (no_header few) = absurd (omega (arith, few, here.whole))
one_packet_fault bytes f g (direct_fails t here q h) (no_type s there v) = let same = one_type bytes t s here there in absurd (known s v (omega (arith, same, q.0), omega (arith, same, q.1)))
one_packet_fault bytes f g (direct_fails t here q h) (direct_fails s there r i) = one_direct_fault bytes f g h i
one_packet_fault bytes f g (direct_fails t here q h) (no_code there few) = absurd (omega (arith, one_type bytes t error_type here there, q.1))
one_packet_fault bytes f g (direct_fails t here q h) (query_fails s b there r i) = absurd (omega (arith, one_type bytes t s here there, q.1, r.0))
one_packet_fault bytes f g (no_code here low) (no_header few) = refl
one_packet_fault bytes f g (no_code here low) (no_type s there v) = let same = one_type bytes error_type s here there in absurd (known s v (omega (arith, same), omega (arith, same)))
one_packet_fault bytes f g (no_code here low) (direct_fails s there r i) = absurd (omega (arith, one_type bytes error_type s here there, r.1))
one_packet_fault bytes f g (no_code here low) (no_code there few) = refl
one_packet_fault bytes f g (no_code here low) (query_fails s b there r i) = absurd (omega (arith, one_type bytes error_type s here there, r.0))
one_packet_fault bytes f g (query_fails t a here q h) (no_header few) = absurd (omega (arith, few, here.whole))
one_packet_fault bytes f g (query_fails t a here q h) (no_type s there v) = let same = one_type bytes t s here there in absurd (known s v (omega (arith, same, q.0), omega (arith, same, q.1)))
one_packet_fault bytes f g (query_fails t a here q h) (direct_fails s there r i) = absurd (omega (arith, one_type bytes t s here there, q.0, r.1))
one_packet_fault bytes f g (query_fails t a here q h) (no_code there few) = absurd (omega (arith, one_type bytes t error_type here there, q.0))
one_packet_fault bytes f g (query_fails t a here q h) (query_fails s b there r i) = ap DestinationName (one_netbios bytes Refused 10 a b h i)

-- what a reading answers is the packet that stands there
pub only_one : (bytes : List ℕ) (result : Result (Packet × ℕ) DatagramFault) (packet : Packet) (used : ℕ)
    → IfOk result (λ read. IsPacket bytes read.0 read.1) → IfErr result (PacketFails bytes) → IsPacket bytes packet used
    → IsOkAnd result (λ read. (read.0 ≡ packet) × (read.1 ≡ used))
only_one bytes (Ok read) packet used found fails h = one_packet bytes read.0 packet read.1 used found h
only_one bytes (Err fault) packet used found fails h = absurd (no_packet bytes packet used fault h fails)
