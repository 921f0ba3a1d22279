-- What is made of payloads, as texts and fields: one for each port.
use Rattle.std.proofs.Common.{◌≡◌, ◌≢◌, ◌⊎◌, inl, inr, ℕ, List, refl, sym, ap, ap₂, ◌∙◌, arith}
use Rattle.nb_service.specs.Packet as service
use Rattle.nb_service.specs.ServiceFaults as service_faults
use Rattle.nb_service.proofs.PacketLemmas as services
use Rattle.nb_datagram.specs.Packet as datagrams
use Rattle.nb_datagram.specs.DatagramFaults as datagram_faults
use Rattle.nb_datagram.proofs.PacketLemmas.{one_packet as one_datagram}
use Rattle.nb_datagram.proofs.FaultLemmas.{no_packet, one_packet_fault}
use Rattle.nb_session.specs.Parsing.{Parsed, Parses}
use Rattle.nb_session.proofs.ParsingLemmas.{one_answer}
use Rattle.nb_text.specs.Made.{Made, IsMade, names, no_names, datagram, no_datagram, session}

-- ---- what is made of a payload, by its port

-- it is made of what stands, or of the fault
abbrev Either : {A F B : Type 0} → (A → ℕ → Type 0) → (F → Type 0) → (A → ℕ → B) → (F → B) → B → Type 0
Either {A} {F} Stands Fails whole refused b =
    ((packet : A) × (used : ℕ) × Stands packet used × (b ≡ whole packet used)) ⊎ ((fault : F) × Fails fault × (b ≡ refused fault))

abbrev OfNames : {B : Type 0} → Made B → List ℕ → B → Type 0
OfNames made payload = Either (service.IsPacket payload) (service_faults.PacketFails payload) made.of_names made.of_no_names

abbrev OfDatagram : {B : Type 0} → Made B → List ℕ → B → Type 0
OfDatagram made payload = Either (datagrams.IsPacket payload) (datagram_faults.PacketFails payload) made.of_datagram made.of_no_datagram

abbrev OfSession : {B : Type 0} → Made B → List ℕ → B → Type 0
OfSession made payload b = (parsed : Parsed) × Parses payload parsed × (b ≡ made.of_session parsed)

-- ByPort Names Datagram Session port b: for the port, one of these holds of it
abbrev pub ByPort : {B : Type 0} → (B → Type 0) → (B → Type 0) → (B → Type 0) → ℕ → B → Type 0
ByPort Names Datagram Session port b =
    ((port ≡ 137) × Names b) ⊎ (((port ≡ 138) × Datagram b) ⊎ ((port ≢ 137) × (port ≢ 138) × Session b))

abbrev MadeFor : {B : Type 0} → Made B → List ℕ → ℕ → B → Type 0
MadeFor made payload = ByPort (OfNames made payload) (OfDatagram made payload) (OfSession made payload)

one_either : {A F B : Type 0} (Stands : A → ℕ → Type 0) (Fails : F → Type 0) (whole : A → ℕ → B) (refused : F → B)
    → ((a b : A) (m n : ℕ) → Stands a m → Stands b n → (a ≡ b) × (m ≡ n)) → ((f : F) (a : A) (n : ℕ) → Fails f → ¬ Stands a n)
    → ((f g : F) → Fails f → Fails g → f ≡ g) → (one other : B)
    → Either Stands Fails whole refused one → Either Stands Fails whole refused other → one ≡ other
one_either Stands Fails whole refused same alone same_fault one other x y = elim x [
  | inl p ↦ elim y [
    | inl q ↦ let e = same p.0 q.0 p.1 q.1 p.2 q.2 in p.3 ∙ ap₂ whole e.0 e.1 ∙ sym q.3
    | inr g ↦ absurd (alone g.0 p.0 p.1 g.1 p.2)
  ]
  | inr f ↦ elim y [
    | inl q ↦ absurd (alone f.0 q.0 q.1 f.1 q.2)
    | inr g ↦ f.2 ∙ ap refused (same_fault f.0 g.0 f.1 g.1) ∙ sym g.2
  ]
]

-- what holds for a port holds of one, where each does
pub one_by_port : {B : Type 0} (Names Datagram Session : B → Type 0) → ((x y : B) → Names x → Names y → x ≡ y)
    → ((x y : B) → Datagram x → Datagram y → x ≡ y) → ((x y : B) → Session x → Session y → x ≡ y) → (port : ℕ) (x y : B)
    → ByPort Names Datagram Session port x → ByPort Names Datagram Session port y → x ≡ y
one_by_port Names Datagram Session same_names same_datagram same_session port x y a b = elim a [
  | inl p ↦ elim b [
    | inl q ↦ same_names x y p.1 q.1
    | inr r ↦ elim r [
      | inl q ↦ let here = p.0 in let there = q.0 in absurd (omega (arith, here, there))
      | inr q ↦ absurd (q.0 p.0)
    ]
  ]
  | inr s ↦ elim s [
    | inl p ↦ elim b [
      | inl q ↦ let here = p.0 in let there = q.0 in absurd (omega (arith, here, there))
      | inr r ↦ elim r [
        | inl q ↦ same_datagram x y p.1 q.1
        | inr q ↦ absurd (q.1 p.0)
      ]
    ]
    | inr p ↦ elim b [
      | inl q ↦ absurd (p.0 q.0)
      | inr r ↦ elim r [
        | inl q ↦ absurd (p.1 q.0)
        | inr q ↦ same_session x y p.2 q.2
      ]
    ]
  ]
]

by_port : {B : Type 0} (made : Made B) (payload : List ℕ) (port : ℕ) (b : B) → IsMade made payload port b → MadeFor made payload port b
by_port made payload _ _ (names packet used h) = inl (refl, inl (packet, used, h, refl))
by_port made payload _ _ (no_names fault h) = inl (refl, inr (fault, h, refl))
by_port made payload _ _ (datagram packet used h) = inr (inl (refl, inl (packet, used, h, refl)))
by_port made payload _ _ (no_datagram fault h) = inr (inl (refl, inr (fault, h, refl)))
by_port made payload _ _ (session port parsed a b h) = inr (inr (a, b, (parsed, h, refl)))

pub one_made : {B : Type 0} (made : Made B) (payload : List ℕ) (port : ℕ) (one other : B) → IsMade made payload port one
    → IsMade made payload port other → one ≡ other
one_made made payload port one other a b =
    one_by_port (OfNames made payload) (OfDatagram made payload) (OfSession made payload)
    (one_either (service.IsPacket payload) (service_faults.PacketFails payload) made.of_names made.of_no_names (services.one_packet payload)
    (λ fault packet used fails stands. services.no_packet payload packet used fault stands fails) (services.one_packet_fault payload))
    (one_either (datagrams.IsPacket payload) (datagram_faults.PacketFails payload) made.of_datagram made.of_no_datagram (one_datagram payload)
    (λ fault packet used fails stands. no_packet payload packet used fault stands fails) (one_packet_fault payload))
    (λ x y p q. p.2 ∙ ap made.of_session (one_answer payload p.0 q.0 p.1 q.1) ∙ sym q.2) port one other (by_port made payload port one a)
    (by_port made payload port other b)
