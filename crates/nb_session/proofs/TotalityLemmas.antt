-- At the front of any bytes a packet stands, the front of one, or a fault; so all bytes are cut.
use Rattle.std.proofs.Common.{◌≡◌, ◌⊎◌, inl, inr, ℕ, ◌+◌, ◌<◌, ◌≤◌, List, [], ◌∷◌, ◌++◌, length, take, drop, get_or, zero, suc, refl, ap, sym, subst, ◌∙◌, arith, append_assoc, length-append, length-drop}
use Rattle.std.proofs.lemmas.Bool.{cases_lt, cases_eq}
use Rattle.std.proofs.lemmas.List.{length-take-le, take_all, take-append-drop, drop_more}
use Rattle.std.specs.Int.{w16, to_be_bytes}
use Rattle.nb_names.specs.declared.reading.Pointers.TheVariants.{Refused as refused}
use Rattle.nb_streams.specs.Places.{AreBytes, StandsAt}
use Rattle.nb_streams.specs.PacketFacts.{All-take, All-drop, number_there}
use Rattle.nb_names.proofs.LabelsLemmas.{next_within, stands_joined}
use Rattle.nb_names.proofs.TotalityLemmas.{named_or_fault}
use Rattle.nb_names.specs.Name.{labels_of_name}
use Rattle.nb_session.specs.declared.fault.SessionFault.{SessionFault}
use Rattle.nb_session.specs.declared.fault.SessionFault.TheVariants.{UnknownType, ReservedFlags, BadLength, Name, TrailingBytes}
use Rattle.nb_session.specs.declared.parsing.Header.{Header}
use Rattle.nb_session.specs.declared.packet.Kind.{Kind}
use Rattle.nb_session.specs.declared.packet.Kind.TheVariants.{Message as message, Request as request, Positive as positive, Negative as negative, Retarget as retarget, Keepalive as keepalive}
use Rattle.nb_session.specs.declared.packet.Packet.TheVariants.{Message, Request, Positive, Negative, Retarget, Keepalive}
use Rattle.nb_session.specs.declared.parsing.Parsed.TheVariants.{Whole, More, Refused}
use Rattle.nb_session.specs.Cutting.{no_packet, one_more, BeginsWithNone, IsCut}
use Rattle.nb_session.specs.Header.{type_of, MayHave, HasHeader, body_length, packet_length, IsGood}
use Rattle.nb_session.specs.Packet.{Packet, IsPacket}
use Rattle.nb_session.specs.Parsing.{Parsed, HeaderFails, unknown_type, reserved_flags, bad_length, RequestFails, called_fails, calling_fails, bytes_trail, Parses, header_lacks, header_fails, body_lacks, body_fails, whole}
use Rattle.nb_session.proofs.HeaderLemmas.{header_in_front, kind_from, kind_back}
use Rattle.nb_session.proofs.CuttingLemmas.{lacking_none, failing_none}
use Rattle.nb_session.proofs.PacketLemmas.{packet_made, packet_headed, request_made}
use Rattle.nb_session.proofs.ParsingLemmas.{parses_whole}

-- ---- the header

header_there : (bytes : List ℕ) → AreBytes bytes → 4 ≤ length bytes → (h : Header) × HasHeader bytes h
header_there bytes each fits =
    let n = number_there bytes 2 each (omega (arith, fits)) in (
      record { packet_type = get_or bytes 0 0; flags = get_or bytes 1 0; length = n.0 },
      record { first = rw (drop_more bytes 0 0 (omega (arith, fits)), drop_more bytes 1 0 (omega (arith, fits))) refl; length = n.1 },
    )

kind_there : (n : ℕ) → ((k : Kind) × (type_of k ≡ n)) ⊎ ((k : Kind) → ¬ (type_of k ≡ n))
kind_there n = elim (cases_eq (type_of (kind_from n)) n) [
  | inl e ↦ inl (kind_from n, e)
  | inr other ↦ inr (λ k e. other (ap (λ (m : ℕ). type_of (kind_from m)) (sym e) ∙ ap type_of (kind_back k) ∙ e))
]

may_or_not : (k : Kind) (n : ℕ) → MayHave k n ⊎ (¬ MayHave k n)
may_or_not message n = inl tt
may_or_not request n = elim (cases_lt n 68) [
  | inl few ↦ inr (λ may. omega (arith, few, may.0))
  | inr some ↦ elim (cases_lt 510 n) [
    | inl much ↦ inr (λ may. omega (arith, much, may.1))
    | inr fits ↦ inl (some, fits)
  ]
]
may_or_not positive n = cases_eq n 0
may_or_not negative n = cases_eq n 1
may_or_not retarget n = cases_eq n 6
may_or_not keepalive n = cases_eq n 0

header_judged : (h : Header) → ((k : Kind) × IsGood h k) ⊎ ((f : SessionFault) × HeaderFails h f)
header_judged h = elim (kind_there h.packet_type) [
  | inr none ↦ inr (UnknownType, unknown_type none)
  | inl x ↦ elim (cases_lt 1 h.flags) [
    | inl high ↦ inr (ReservedFlags, reserved_flags x.0 x.1 high)
    | inr low ↦ elim (may_or_not x.0 (body_length h)) [
      | inl may ↦ inl (x.0, record { type = x.1; flags = low; length = may })
      | inr not ↦ inr (BadLength, bad_length x.0 x.1 low not)
    ]
  ]
]

-- ---- the body

-- a whole packet is a value, or a request with a fault
abbrev Judged : List ℕ → Kind → Type 0
Judged p k = ((v : Packet) × IsPacket v p) ⊎ ((f : SessionFault) × (k ≡ request) × RequestFails p f)

request_judged : (p : List ℕ) (h : Header) → AreBytes p → HasHeader p h → IsGood h request → length p ≡ packet_length h → Judged p request
request_judged p h each has good long = elim (named_or_fault p refused 4 each) [
  | inr f ↦ inr (Name f.0, refl, called_fails f.0 f.1)
  | inl a ↦ elim (named_or_fault p refused a.1 each) [
    | inr f ↦ inr (Name f.0, refl, calling_fails a.0 a.1 f.0 a.2 a.3 f.1)
    | inl b ↦ elim (cases_lt b.1 (length p)) [
      | inl more ↦ inr (TrailingBytes b.1, refl, bytes_trail a.0 b.0 a.1 b.1 a.2 b.2 a.3 b.3 more)
      | inr ends ↦ inl (Request a.0 b.0, request_made p h a.0 b.0 a.1 b.1 has good long a.2 b.2 a.3 b.3 (omega (arith, ends, (next_within p refused a.1 a.1 (labels_of_name b.0) b.1 b.3).1)))
    ]
  ]
]

body_judged : (p : List ℕ) (h : Header) (k : Kind) → AreBytes p → HasHeader p h → IsGood h k → length p ≡ packet_length h → Judged p k
body_judged p h message each has good long =
    let rest : List ℕ = drop 4 p in
    let size : length rest ≡ body_length h = omega (arith, length-drop 4 p, long) in
    inl (Message rest, packet_made p h (Message rest) has good long (omega (arith, size, has.length.fits, good.flags)) (take_all (length rest) rest (omega arith)) size)
body_judged p h request each has good long = request_judged p h each has good long
body_judged p h positive each has good long = inl (Positive, packet_made p h Positive has good long tt refl (sym good.length))
body_judged p h negative each has good long =
    let code : ℕ = get_or p 4 0 in
    inl (Negative code, packet_made p h (Negative code) has good long tt (rw (drop_more p 4 0 (omega (arith, long, good.length))) refl) (sym good.length))
body_judged p h retarget each has good long =
    let address : List ℕ = take 4 (drop 4 p) in
    let four : length address ≡ 4 = length-take-le 4 (drop 4 p) (omega (arith, length-drop 4 p, long, good.length)) in
    let port = number_there p 8 each (omega (arith, long, good.length)) in
    let here : StandsAt p 4 address = ap (λ (n : ℕ). take n (drop 4 p)) four in
    let behind : StandsAt p (4 + length address) (to_be_bytes w16 port.0) = subst (λ (n : ℕ). StandsAt p (4 + n) (to_be_bytes w16 port.0)) (sym four) port.1.bytes in
    inl (
      Retarget address port.0,
      packet_made p h (Retarget address port.0) has good long (four, port.1.fits) (stands_joined p 4 address (to_be_bytes w16 port.0) here behind)
          (omega (arith, length-append address (to_be_bytes w16 port.0), four, good.length)),
    )
body_judged p h keepalive each has good long = inl (Keepalive, packet_made p h Keepalive has good long tt refl (sym good.length))

-- ---- what stands at the front

pub some_answer : (bytes : List ℕ) → AreBytes bytes → (parsed : Parsed) × Parses bytes parsed
some_answer bytes each = elim (cases_lt (length bytes) 4) [
  | inl few ↦ (_, header_lacks few)
  | inr four ↦ let x = header_there bytes each four in elim (header_judged x.0) [
    | inr bad ↦ (_, header_fails x.0 bad.0 x.1 bad.1)
    | inl good ↦ elim (cases_lt (length bytes) (packet_length x.0)) [
      | inl short ↦ (_, body_lacks x.0 good.0 x.1 good.1 short)
      | inr long ↦ let n : ℕ = packet_length x.0 in elim (body_judged (take n bytes) x.0 good.0 (All-take _ n bytes each) (header_in_front bytes n x.0 (omega arith) x.1) good.1 (length-take-le n bytes long)) [
        | inl v ↦ (_, whole v.0 n long v.1)
        | inr f ↦ (_, body_fails x.0 f.0 x.1 (subst (IsGood x.0) f.1 good.1) long f.2)
      ]
    ]
  ]
]

-- ---- all bytes are cut

abbrev Cut : List ℕ → Type 0
Cut bytes = (packets : List Packet) × (rest : List ℕ) × IsCut bytes packets rest

uncut : (bytes : List ℕ) → BeginsWithNone bytes → Cut bytes
uncut bytes none = ([], bytes, record { front = []; there = no_packet; exact = refl; behind = none })

cut_on : (bytes : List ℕ) (v : Packet) (used : ℕ) → used ≤ length bytes → IsPacket v (take used bytes) → Cut (drop used bytes) → Cut bytes
cut_on bytes v used fits is tail = (
  v ∷ tail.0,
  tail.1,
  record {
    front = take used bytes ++ tail.2.front;
    there = one_more v tail.0 (take used bytes) tail.2.front is tail.2.there;
    exact = sym (take-append-drop used bytes) ∙ ap (λ (r : List ℕ). take used bytes ++ r) tail.2.exact ∙ sym (append_assoc (take used bytes) tail.2.front tail.1);
    behind = tail.2.behind;
  },
)

cut_within : (fuel : ℕ) (bytes : List ℕ) → AreBytes bytes → length bytes ≤ fuel → Cut bytes
cut_within zero bytes each fits = uncut bytes (lacking_none bytes _ (header_lacks (omega (arith, fits))))
cut_within (suc fuel) bytes each fits = turn bytes (some_answer bytes each) (λ used some. cut_within fuel (drop used bytes) (All-drop _ used bytes each) (omega (arith, fits, some, length-drop used bytes))) where
  turn : (bytes : List ℕ) → ((parsed : Parsed) × Parses bytes parsed) → ((used : ℕ) → 0 < used → Cut (drop used bytes)) → Cut bytes
  turn bytes (More needed, stands) rest = uncut bytes (lacking_none bytes needed stands)
  turn bytes (Refused fault, stands) rest = uncut bytes (failing_none bytes fault stands)
  turn bytes (Whole v used, stands) rest =
      let is = parses_whole bytes v used stands in
      let head = packet_headed v (take used bytes) is.1 in
      cut_on bytes v used is.0 is.1 (rest used (omega (arith, head.long, length-take-le used bytes is.0)))

pub all_cut : (bytes : List ℕ) → AreBytes bytes → (packets : List Packet) × (rest : List ℕ) × IsCut bytes packets rest
all_cut bytes each = cut_within (length bytes) bytes each (omega arith)
