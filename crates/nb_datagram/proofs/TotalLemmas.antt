-- Each row of bytes begins with a packet or has a fault.
use Rattle.nb_datagram.proofs.Common.{◌≡◌, ◌==◌, cond, ◌⊎◌, ℕ, ◌+◌, ◌<◌, ◌≤◌, inl, inr, List, [], ◌∷◌, ◌++◌, length, take, drop, get_or, refl, sym, subst, ◌∙◌, arith, w16, to_be_bytes, Refused, AreBytes, StandsAt, NumberAt, labels_of_name, stands_fits, range_stands, All-take, number_there, stands_joined, stands_one, spelled_there, type_of, Packet, IsPacket, HasType, in_source, in_destination, no_fields, no_data, in_names, PacketFails, no_header, no_type, no_code}
use Rattle.std.proofs.lemmas.Bool.{cases_lt}
use Rattle.std.proofs.lemmas.Bool.Decides.{nat_tests}
use Rattle.nb_names.specs.DomainName.{spelling}
use Rattle.nb_names.proofs.TotalityLemmas.{named_or_fault}
use Rattle.nb_datagram.specs.declared.fault.DatagramFault.{DatagramFault}
use Rattle.nb_datagram.specs.declared.fault.DatagramFault.TheVariants.{Truncated, UnknownType, SourceName, DestinationName}
use Rattle.nb_datagram.specs.declared.decoding.Form.{Form}
use Rattle.nb_datagram.specs.declared.decoding.Form.TheVariants.{Direct, Error, Query}
use Rattle.nb_datagram.specs.declared.front.Header.{Header}
use Rattle.nb_datagram.specs.declared.key.Key.{Key}
use Rattle.nb_datagram.specs.declared.key.Kind.{Kind}
use Rattle.nb_datagram.specs.declared.key.Kind.TheVariants.{Unique, Group, Broadcast}
use Rattle.nb_datagram.specs.declared.packet.QueryKind.TheVariants.{Request, Positive, Negative}
use Rattle.nb_datagram.specs.Code.Reading.{number_of, HasHeader}
use Rattle.nb_datagram.proofs.ReadingLemmas.{header_type, error_there, query_there, fragment_there, query_named, direct_failed}

-- these bytes begin with a packet, or have a fault
abbrev pub Outcome : List ℕ → Type 0
Outcome bytes = ((packet : Packet) × (used : ℕ) × IsPacket bytes packet used) ⊎ ((fault : DatagramFault) × PacketFails bytes fault)

-- ---- the header

abbrev form_from : ℕ → Form
form_from n =
    cond (n == 16) (Direct Unique) (cond (n == 17) (Direct Group) (cond (n == 18) (Direct Broadcast)
    (cond (n == 19) Error (cond (n == 20) (Query Request) (cond (n == 21) (Query Positive) (Query Negative))))))

form_there : (type : ℕ) → 16 ≤ type → type ≤ 22 → number_of (form_from type) ≡ type
form_there type low high = grind (arith, nat_tests)

-- ten bytes are a header
header_there : (bytes : List ℕ) → AreBytes bytes → 10 ≤ length bytes →
    (header : Header) × HasHeader bytes header × (header.message_type ≡ get_or bytes 0 0)
header_there bytes each fits =
    let type : ℕ = get_or bytes 0 0 in
    let flags : ℕ = get_or bytes 1 0 in
    let id = number_there bytes 2 each (omega arith) in
    let port = number_there bytes 8 each (omega arith) in
    let address = range_stands bytes 4 4 (omega arith) in
    let ip : List ℕ = take 4 (drop 4 bytes) in
    let key : Key = record { ip = ip; port = port.0; id = id.0 } in
    let place : 8 ≡ 4 + length ip = omega (arith, address.0) in
    let last : StandsAt bytes (4 + length ip) (to_be_bytes w16 port.0) = subst (λ (n : ℕ). StandsAt bytes n (to_be_bytes w16 port.0)) place port.1.bytes in
    let tail = stands_joined bytes 2 (to_be_bytes w16 id.0) (ip ++ to_be_bytes w16 port.0) id.1.bytes (stands_joined bytes 4 ip (to_be_bytes w16 port.0) address.1 last) in
    let whole = stands_joined bytes 0 (type ∷ []) (flags ∷ (to_be_bytes w16 id.0 ++ (ip ++ to_be_bytes w16 port.0))) (stands_one bytes 0 (omega arith))
    (stands_joined bytes 1 (flags ∷ []) (to_be_bytes w16 id.0 ++ (ip ++ to_be_bytes w16 port.0)) (stands_one bytes 1 (omega arith)) tail) in (
      record { message_type = type; flags = flags; key = key },
      record {
        key = record { ip = address.0; port = port.1.fits; id = id.1.fits };
        whole = fits;
        stands = whole;
      },
      refl,
    )

-- ---- what stands after it

names_or_fault : (bytes : List ℕ) (header : Header) (kind : Kind) (size : ℕ) → AreBytes bytes → HasHeader bytes header → header.message_type ≡ type_of kind →
    NumberAt bytes 10 w16 size → 14 + size ≤ length bytes → Outcome bytes
names_or_fault bytes header kind size each there is number fits =
    let packet : List ℕ = take (14 + size) bytes in
    let all : AreBytes packet = All-take _ (14 + size) bytes each in
    let offset = number_there bytes 12 each (omega arith) in
    elim (named_or_fault packet Refused 14 all) [
      | inr f ↦ inr (SourceName f.0, direct_failed bytes header kind (SourceName f.0) there is (in_names size number fits (in_source f.0 f.1)))
      | inl a ↦ elim (named_or_fault packet Refused a.1 all) [
        | inr f ↦ inr (DestinationName f.0, direct_failed bytes header kind (DestinationName f.0) there is (in_names size number fits (in_destination a.0 a.1 f.0 a.2 a.3 f.1)))
        | inl b ↦ (let spelled = spelled_there packet a.1 a.1 (labels_of_name b.0) b.1 b.3 in
            let within = stands_fits packet a.1 (spelling (labels_of_name b.0)) spelled.0 (omega arith) in
            inl (
              _,
              14 + size,
              fragment_there bytes header kind size offset.0 a.0 b.0 a.1 b.1 there is (record {
                size_there = number;
                offset_there = offset.1;
                whole = fits;
                source_there = a.3;
                destination_there = b.3;
                within = omega (arith, within, spelled.1);
                source_name = a.2;
                destination_name = b.2;
              }),
            ))
      ]
    ]

behind_header : (bytes : List ℕ) (header : Header) (form : Form) → AreBytes bytes → HasHeader bytes header → header.message_type ≡ number_of form → Outcome bytes
behind_header bytes header (Direct kind) each there is = elim (cases_lt (length bytes) 14) [
  | inl low ↦ inr (Truncated (length bytes), direct_failed bytes header kind (Truncated (length bytes)) there is (no_fields low))
  | inr enough ↦ (let size = number_there bytes 10 each (omega arith) in
      elim (cases_lt (length bytes) (14 + size.0)) [
        | inl low ↦ inr (Truncated (length bytes), direct_failed bytes header kind (Truncated (length bytes)) there is (no_data size.0 size.1 enough low))
        | inr fits ↦ names_or_fault bytes header kind size.0 each there is size.1 fits
      ])
]
behind_header bytes header Error each there is = elim (cases_lt (length bytes) 11) [
  | inl low ↦ inr (Truncated (length bytes), no_code (subst (HasType bytes) is (header_type bytes header there)) low)
  | inr fits ↦ inl (_, 11, error_there bytes header there is fits)
]
behind_header bytes header (Query kind) each there is = elim (named_or_fault bytes Refused 10 each) [
  | inl a ↦ inl (_, a.1, query_there bytes header kind a.0 a.1 there is a.2 a.3)
  | inr f ↦ inr (DestinationName f.0, query_named bytes header kind f.0 there is f.1)
]

known_type : (bytes : List ℕ) → AreBytes bytes → 10 ≤ length bytes → 16 ≤ get_or bytes 0 0 → get_or bytes 0 0 ≤ 22 → Outcome bytes
known_type bytes each fits low high =
    let header = header_there bytes each fits in
    behind_header bytes header.0 (form_from (get_or bytes 0 0)) each header.1 (header.2 ∙ sym (form_there (get_or bytes 0 0) low high))

unknown_type : (bytes : List ℕ) → 10 ≤ length bytes → (get_or bytes 0 0 < 16) ⊎ (22 < get_or bytes 0 0) → Outcome bytes
unknown_type bytes fits unknown =
    inr (UnknownType, no_type (get_or bytes 0 0) (record { whole = fits; first = stands_one bytes 0 (omega arith) }) unknown)

pub packet_or_fault : (bytes : List ℕ) → AreBytes bytes → Outcome bytes
packet_or_fault bytes each = elim (cases_lt (length bytes) 10) [
  | inl low ↦ inr (Truncated (length bytes), no_header low)
  | inr fits ↦ elim (cases_lt (get_or bytes 0 0) 16) [
    | inl below ↦ unknown_type bytes fits (inl below)
    | inr from ↦ elim (cases_lt 22 (get_or bytes 0 0)) [
      | inl above ↦ unknown_type bytes fits (inr above)
      | inr to ↦ known_type bytes each fits from to
    ]
  ]
]
