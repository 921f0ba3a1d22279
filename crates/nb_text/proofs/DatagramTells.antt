-- The text of a datagram service packet tells the packet.
use Rattle.std.proofs.Common.{◌≡◌, ℕ, ◌<◌, ◌^◌, List, [], ◌∷◌, ◌++◌, refl, ap, subst, arith, codes}
use Rattle.std.specs.Int.{w16, to_be_bytes}
use Rattle.nb_streams.specs.Places.{AreBytes}
use Rattle.nb_names.specs.Name.{IsByteName}
use Rattle.nb_datagram.specs.declared.key.Key.{Key}
use Rattle.nb_datagram.specs.declared.key.Kind.{Kind}
use Rattle.nb_datagram.specs.declared.key.Kind.TheVariants.{Unique, Group, Broadcast}
use Rattle.nb_datagram.specs.declared.packet.ErrorPacket.{ErrorPacket}
use Rattle.nb_datagram.specs.declared.packet.QueryKind.{QueryKind}
use Rattle.nb_datagram.specs.declared.packet.QueryKind.TheVariants.{Request, Positive, Negative}
use Rattle.nb_datagram.specs.declared.packet.Packet.TheVariants.{Direct, Error, Query}
use Rattle.nb_datagram.specs.Fragment.{FragmentParts, named_length}
use Rattle.nb_datagram.specs.Header.{IsKey, header_bytes, error_type, query_type}
use Rattle.nb_datagram.specs.Packet.{type_of, Packet, QueryPacket, IsPacket, Fits, FitsDirect, packet_bytes, direct_bytes, name_bytes}
use Rattle.nb_datagram.specs.FaultTexts.{kind_text}
use Rattle.nb_text.specs.Fields.{IsWord}
use Rattle.nb_text.specs.Lines.{used_text}
use Rattle.nb_text.specs.Words.{query_word}
use Rattle.nb_text.specs.DatagramText.{flags_text, parts_text, datagram_text}
use Rattle.nb_text.proofs.MidLemmas.{bytes-split, spelled_name}
use Rattle.nb_text.proofs.FieldLemmas.{literal}
use Rattle.nb_text.proofs.FieldTells.{IsByteKey, number_tells, code_tells, data_tells, key_tells, name_tells}
use Rattle.nb_text.proofs.TellLemmas.{Tells, space, seen_tells, both_tell, field_then, after_tells, differ, differ_tells, turned, tells_then}

-- ---- the header

-- flags and a key that stand in bytes
abbrev pub AreByteFlags : ℕ → Key → Type 0
AreByteFlags flags key = (flags < 256) × IsByteKey key

header_stands : (type flags : ℕ) (key : Key) → IsKey key → AreBytes (header_bytes type flags key) → AreByteFlags flags key
header_stands type flags key is a =
    let behind = (bytes-split (to_be_bytes w16 key.id) (key.ip ++ to_be_bytes w16 key.port) a.1.1).1 in
    (a.1.0, (is, (bytes-split key.ip (to_be_bytes w16 key.port) behind).0))

flags_tell : (flags bits : ℕ) (key other : Key) → AreByteFlags flags key → AreByteFlags bits other
    → Tells (flags_text flags key) (flags_text bits other) ((flags ≡ bits) × (key ≡ other))
flags_tell flags bits key other a b =
    field_then (codes " flags=") (code_tells flags bits a.0 b.0) (after_tells (codes " key=") (key_tells key other a.1 b.1)) space space

-- ---- the words

pub kind_word : (kind : Kind) → IsWord (kind_text kind)
kind_word Unique = literal (codes "unique") refl
kind_word Group = literal (codes "group") refl
kind_word Broadcast = literal (codes "broadcast") refl

pub query_is_word : (kind : QueryKind) → IsWord (query_word kind)
query_is_word Request = literal (codes "find") refl
query_is_word Positive = literal (codes "found") refl
query_is_word Negative = literal (codes "missing") refl

kind_same : (a b : Kind) → kind_text a ≡ kind_text b → a ≡ b
kind_same Unique Unique e = refl
kind_same Group Group e = refl
kind_same Broadcast Broadcast e = refl
kind_same a b e = absurd (differ (kind_text a) (kind_text b) e refl)

kind_tells : (a b : Kind) → Tells (kind_text a) (kind_text b) (a ≡ b)
kind_tells a b = seen_tells (kind_text a) (kind_text b) (kind_word a).1 (kind_word b).1 (kind_same a b)

query_same : (a b : QueryKind) → query_word a ≡ query_word b → a ≡ b
query_same Request Request e = refl
query_same Positive Positive e = refl
query_same Negative Negative e = refl
query_same a b e = absurd (differ (query_word a) (query_word b) e refl)

query_tells : (a b : QueryKind) → Tells (query_word a) (query_word b) (a ≡ b)
query_tells a b = seen_tells (query_word a) (query_word b) (query_is_word a).1 (query_is_word b).1 (query_same a b)

-- packets of two sorts begin with other words
kind_or_error : (kind : Kind) (more : List ℕ) (e : ErrorPacket) (F : Type 0) → Tells (kind_text kind ++ more) (parts_text (Error e)) F
kind_or_error Unique more e F = differ_tells _ _ (λ r s. refl)
kind_or_error Group more e F = differ_tells _ _ (λ r s. refl)
kind_or_error Broadcast more e F = differ_tells _ _ (λ r s. refl)

query_or_error : (kind : QueryKind) (more : List ℕ) (e : ErrorPacket) (F : Type 0) → Tells (query_word kind ++ more) (parts_text (Error e)) F
query_or_error Request more e F = differ_tells _ _ (λ r s. refl)
query_or_error Positive more e F = differ_tells _ _ (λ r s. refl)
query_or_error Negative more e F = differ_tells _ _ (λ r s. refl)

kind_or_query : (kind : Kind) (query : QueryKind) (more other : List ℕ) (F : Type 0) → Tells (kind_text kind ++ more) (query_word query ++ other) F
kind_or_query Unique Request more other F = differ_tells _ _ (λ r s. refl)
kind_or_query Unique Positive more other F = differ_tells _ _ (λ r s. refl)
kind_or_query Unique Negative more other F = differ_tells _ _ (λ r s. refl)
kind_or_query Group Request more other F = differ_tells _ _ (λ r s. refl)
kind_or_query Group Positive more other F = differ_tells _ _ (λ r s. refl)
kind_or_query Group Negative more other F = differ_tells _ _ (λ r s. refl)
kind_or_query Broadcast Request more other F = differ_tells _ _ (λ r s. refl)
kind_or_query Broadcast Positive more other F = differ_tells _ _ (λ r s. refl)
kind_or_query Broadcast Negative more other F = differ_tells _ _ (λ r s. refl)

-- ---- the packets

-- a fragment that stands in bytes
pub record IsByteFragment (f : FragmentParts) : Type 0 where
  pub header : AreByteFlags f.flags f.key
  pub offset : f.offset < 2 ^ 16
  pub source : IsByteName f.source
  pub destination : IsByteName f.destination
  pub bytes : AreBytes f.bytes

fragment_stands : (f : FragmentParts) → FitsDirect f → AreBytes (packet_bytes (Direct f)) → IsByteFragment f
fragment_stands f fits a =
    let parts = bytes-split (header_bytes (type_of f.kind) f.flags f.key) (direct_bytes f) a in
    let size = to_be_bytes w16 (named_length f.source f.destination f.bytes) in
    let one = (bytes-split size (to_be_bytes w16 f.offset ++ (name_bytes f.source ++ (name_bytes f.destination ++ f.bytes))) parts.1).1 in
    let two = (bytes-split (to_be_bytes w16 f.offset) (name_bytes f.source ++ (name_bytes f.destination ++ f.bytes)) one).1 in
    let names = bytes-split (name_bytes f.source) (name_bytes f.destination ++ f.bytes) two in
    let rest = bytes-split (name_bytes f.destination) f.bytes names.1 in
    record {
      header = header_stands (type_of f.kind) f.flags f.key fits.key parts.0;
      offset = fits.offset;
      source = spelled_name f.source fits.source names.0;
      destination = spelled_name f.destination fits.destination rest.0;
      bytes = rest.1;
    }

fragment_tells : (f g : FragmentParts) → IsByteFragment f → IsByteFragment g → Tells (parts_text (Direct f)) (parts_text (Direct g)) (◌≡◌ {A = Packet} (Direct f) (Direct g))
fragment_tells f g a b =
    let low = a.offset in
    let small = b.offset in
    let last = after_tells (codes " data=") (data_tells f.bytes g.bytes a.bytes b.bytes) in
    let destination = field_then (codes " destination=") (name_tells f.destination g.destination a.destination b.destination) last space space in
    let source = field_then (codes " source=") (name_tells f.source g.source a.source b.source) destination space space in
    let offset = field_then (codes " offset=") (number_tells f.offset g.offset (omega (arith, low)) (omega (arith, small))) source space space in
    let header = both_tell (flags_tell f.flags g.flags f.key g.key a.header b.header) (λ _. offset) space space in
    tells_then (both_tell (kind_tells f.kind g.kind) (λ _. header) space space)
    (λ h. ap Direct (λ i. record {
      kind = h.0 i;
      flags = h.1.0.0 i;
      key = h.1.0.1 i;
      offset = h.1.1.0 i;
      source = h.1.1.1.0 i;
      destination = h.1.1.1.1.0 i;
      bytes = h.1.1.1.1.1 i;
    }))

-- an error packet, and a query packet, that stand in bytes
abbrev pub IsByteError : ErrorPacket → Type 0
IsByteError e = AreByteFlags e.flags e.key × (e.code < 256)

abbrev pub IsByteQuery : QueryPacket → Type 0
IsByteQuery q = AreByteFlags q.flags q.key × IsByteName q.destination

error_tells : (e x : ErrorPacket) → IsByteError e → IsByteError x → Tells (parts_text (Error e)) (parts_text (Error x)) (◌≡◌ {A = Packet} (Error e) (Error x))
error_tells e x a b =
    let code = after_tells (codes " code=") (code_tells e.code x.code a.1 b.1) in
    tells_then (after_tells (codes "error") (both_tell (flags_tell e.flags x.flags e.key x.key a.0 b.0) (λ _. code) space space))
    (λ h. ap Error (λ i. record { flags = h.0.0 i; key = h.0.1 i; code = h.1 i }))

query_packet_tells : (q x : QueryPacket) → IsByteQuery q → IsByteQuery x → Tells (parts_text (Query q)) (parts_text (Query x)) (Query q ≡ Query x)
query_packet_tells q x a b =
    let destination = after_tells (codes " destination=") (name_tells q.destination x.destination a.1 b.1) in
    let header = both_tell (flags_tell q.flags x.flags q.key x.key a.0 b.0) (λ _. destination) space space in
    tells_then (both_tell (query_tells q.kind x.kind) (λ _. header) space space)
    (λ h. ap Query (λ i. record { kind = h.0 i; flags = h.1.0.0 i; key = h.1.0.1 i; destination = h.1.1 i }))

-- a packet that stands in bytes
abbrev pub IsBytePacket : Packet → Type 0
IsBytePacket (Direct f) = IsByteFragment f
IsBytePacket (Error e) = IsByteError e
IsBytePacket (Query q) = IsByteQuery q

packet_stands : (packet : Packet) → Fits packet → AreBytes (packet_bytes packet) → IsBytePacket packet
packet_stands (Direct f) fits a = fragment_stands f fits a
packet_stands (Error e) fits a =
    let parts = bytes-split (header_bytes error_type e.flags e.key) (e.code ∷ []) a in
    (header_stands error_type e.flags e.key fits parts.0, parts.1.0)
packet_stands (Query q) fits a =
    let parts = bytes-split (header_bytes (query_type q.kind) q.flags q.key) (name_bytes q.destination) a in
    (header_stands (query_type q.kind) q.flags q.key fits.0 parts.0, spelled_name q.destination fits.1 parts.1)

packet_tells : (a b : Packet) → IsBytePacket a → IsBytePacket b → Tells (parts_text a) (parts_text b) (a ≡ b)
packet_tells (Direct f) (Direct g) a b = fragment_tells f g a b
packet_tells (Error e) (Error x) a b = error_tells e x a b
packet_tells (Query q) (Query x) a b = query_packet_tells q x a b
packet_tells (Direct f) (Error e) a b = kind_or_error f.kind _ e _
packet_tells (Error e) (Direct f) a b = turned (kind_or_error f.kind _ e _)
packet_tells (Query x) (Error e) a b = query_or_error x.kind _ e _
packet_tells (Error e) (Query x) a b = turned (query_or_error x.kind _ e _)
packet_tells (Direct f) (Query x) a b = kind_or_query f.kind x.kind _ _ _
packet_tells (Query x) (Direct f) a b = turned (kind_or_query f.kind x.kind _ _ _)

pub stands : (payload : List ℕ) (packet : Packet) (used : ℕ) → AreBytes payload → IsPacket payload packet used → IsBytePacket packet
stands payload packet used a is = packet_stands packet is.fits (bytes-split (packet_bytes packet) is.rest (subst AreBytes is.whole a)).0

pub datagram_tells : (payload other : List ℕ) (packet same : Packet) (used after shown again : ℕ) → AreBytes payload → AreBytes other
    → IsPacket payload packet used → IsPacket other same after → datagram_text packet shown ≡ datagram_text same again → packet ≡ same
datagram_tells payload other packet same used after shown again a b here there e =
    let tells = packet_tells packet same (stands payload packet used a here) (stands other same after b there) in
    (tells.told (used_text shown) (used_text again) space space e).0
