-- What stands at the front of bytes is one: a packet, the front of one, or a fault.
use Rattle.std.proofs.Common.{◌≡◌, ℕ, ◌-◌, ◌<◌, ◌≤◌, List, ◌++◌, length, take, drop, refl, ap, sym, subst, ◌∙◌, arith, length-append, ◌⊎◌, inl, inr}
use Rattle.std.proofs.lemmas.List.{take_at, take_all, take_rest, length-take-le}
use Rattle.std.proofs.lemmas.Bool.{cases_lt}
use Rattle.nb_names.specs.declared.reading.Pointers.TheVariants.{Refused as refused}
use Rattle.nb_names.specs.Labels.{NameAt}
use Rattle.nb_names.specs.Name.{NetbiosName, labels_of_name}
use Rattle.nb_names.proofs.FaultLemmas.{one_netbios, no_netbios}
use Rattle.nb_names.proofs.LabelsLemmas.{one_reading}
use Rattle.nb_session.specs.declared.fault.SessionFault.{SessionFault}
use Rattle.nb_session.specs.declared.fault.SessionFault.TheVariants.{Name, TrailingBytes}
use Rattle.nb_session.specs.declared.parsing.Header.{Header}
use Rattle.nb_session.specs.declared.packet.Kind.{Kind}
use Rattle.nb_session.specs.declared.packet.Kind.TheVariants.{Request as request}
use Rattle.nb_session.specs.declared.packet.Packet.TheVariants.{Message, Request, Positive, Negative, Retarget, Keepalive}
use Rattle.nb_session.specs.declared.parsing.Parsed.TheVariants.{Whole, More, Refused}
use Rattle.nb_session.specs.Header.{MayHave, HasHeader, body_length, packet_length, IsGood}
use Rattle.nb_session.specs.Packet.{Packet, kind_of, IsPacket}
use Rattle.nb_session.specs.Parsing.{Parsed, Lacks, HeaderFails, unknown_type, reserved_flags, bad_length, RequestFails, called_fails, calling_fails, bytes_trail, Parses, header_lacks, header_fails, body_lacks, body_fails, whole}
use Rattle.nb_session.proofs.HeaderLemmas.{header_within, one_header, one_kind, header_in_front, header_in_all}
use Rattle.nb_session.proofs.PacketLemmas.{packet_headed, request_read, one_value}

-- ---- faults

good_alone : (h : Header) (k : Kind) (f : SessionFault) → IsGood h k → HeaderFails h f → ⊥
good_alone h k f good (unknown_type none) = none k good.type
good_alone h k f good (reserved_flags j is high) = omega (arith, good.flags, high)
good_alone h k f good (bad_length j is low may) = may (subst (λ (i : Kind). MayHave i (body_length h)) (one_kind k j (good.type ∙ sym is)) good.length)

one_header_fault : (h : Header) (f g : SessionFault) → HeaderFails h f → HeaderFails h g → f ≡ g
one_header_fault h f g (unknown_type none) (unknown_type never) = refl
one_header_fault h f g (unknown_type none) (reserved_flags j is high) = absurd (none j is)
one_header_fault h f g (unknown_type none) (bad_length j is low may) = absurd (none j is)
one_header_fault h f g (reserved_flags j is high) (unknown_type none) = absurd (none j is)
one_header_fault h f g (reserved_flags j is high) (reserved_flags k was above) = refl
one_header_fault h f g (reserved_flags j is high) (bad_length k was low may) = absurd (omega (arith, low, high))
one_header_fault h f g (bad_length j is low may) (unknown_type none) = absurd (none j is)
one_header_fault h f g (bad_length j is low may) (reserved_flags k was high) = absurd (omega (arith, low, high))
one_header_fault h f g (bad_length j is low may) (bad_length k was below not) = refl

-- a called name that is read is where another one is
moved : (p : List ℕ) (a b : NetbiosName) (m n : ℕ) → NameAt p refused 4 (labels_of_name a) m → NameAt p refused 4 (labels_of_name b) n → m ≡ n
moved p a b m n x y = (one_reading p refused 4 4 (labels_of_name a) (labels_of_name b) m n x y).1

one_request_fault : (p : List ℕ) (f g : SessionFault) → RequestFails p f → RequestFails p g → f ≡ g
one_request_fault p f g (called_fails a x) (called_fails b y) = ap Name (one_netbios p refused 4 a b x y)
one_request_fault p f g (called_fails a x) (calling_fails called m b is there y) = absurd (no_netbios p refused 4 a called m x is there)
one_request_fault p f g (called_fails a x) (bytes_trail called calling m n is was there behind low) = absurd (no_netbios p refused 4 a called m x is there)
one_request_fault p f g (calling_fails called m b is there y) (called_fails a x) = absurd (no_netbios p refused 4 a called m x is there)
one_request_fault p f g (calling_fails one m a is there x) (calling_fails two n b was here y) =
    ap Name (one_netbios p refused n a b (subst (λ (i : ℕ). Rattle.nb_names.specs.NameFaults.NetbiosFaultAt p refused i a) (moved p one two m n there here) x) y)
one_request_fault p f g (calling_fails one m a is there x) (bytes_trail two calling n end was are here behind low) =
    absurd (no_netbios p refused m a calling end x are (subst (λ (i : ℕ). NameAt p refused i (labels_of_name calling) end) (moved p two one n m here there) behind))
one_request_fault p f g (bytes_trail called calling m n is was there behind low) (called_fails a x) = absurd (no_netbios p refused 4 a called m x is there)
one_request_fault p f g (bytes_trail two calling n end was are here behind low) (calling_fails one m a is there x) =
    absurd (no_netbios p refused m a calling end x are (subst (λ (i : ℕ). NameAt p refused i (labels_of_name calling) end) (moved p two one n m here there) behind))
one_request_fault p f g (bytes_trail one calling m end is are there behind low) (bytes_trail two other n last was be here beyond few) =
    ap TrailingBytes (one_reading p refused n n (labels_of_name calling) (labels_of_name other) end last
    (subst (λ (i : ℕ). NameAt p refused i (labels_of_name calling) end) (moved p one two m n there here) behind) beyond).1

request_alone : (called calling : NetbiosName) (p : List ℕ) (f : SessionFault) → IsPacket (Request called calling) p → RequestFails p f → ⊥
request_alone called calling p f is (called_fails a x) = no_netbios p refused 4 a called _ x is.formed.0 (request_read called calling p is).0
request_alone called calling p f is (calling_fails one m a was there x) =
    let read = request_read called calling p is in
    no_netbios p refused m a calling (length p) x is.formed.1
    (subst (λ (i : ℕ). NameAt p refused i (labels_of_name calling) (length p)) (moved p called one _ m read.0 there) read.1)
request_alone called calling p f is (bytes_trail one two m end was be there behind low) =
    let read = request_read called calling p is in
    let last = (one_reading p refused m m (labels_of_name two) (labels_of_name calling) end (length p) behind
    (subst (λ (i : ℕ). NameAt p refused i (labels_of_name calling) (length p)) (moved p called one _ m read.0 there) read.1)).1 in
    omega (arith, last, low)

no_fault : (v : Packet) (p : List ℕ) (f : SessionFault) → IsPacket v p → request ≡ kind_of v → RequestFails p f → ⊥
no_fault (Message contents) p f is kind fails = absurd (cc)
no_fault (Request called calling) p f is kind fails = request_alone called calling p f is fails
no_fault Positive p f is kind fails = absurd (cc)
no_fault (Negative code) p f is kind fails = absurd (cc)
no_fault (Retarget address port) p f is kind fails = absurd (cc)
no_fault Keepalive p f is kind fails = absurd (cc)

-- ---- one answer, step by step

-- what is answered of a whole packet
data OfWhole (bytes : List ℕ) (h : Header) : Parsed → Type 0 where
  fails : (f : SessionFault) → IsGood h request → RequestFails (take (packet_length h) bytes) f → OfWhole bytes h (Refused f)
  read : (v : Packet) → IsGood h (kind_of v) → IsPacket v (take (packet_length h) bytes) → OfWhole bytes h (Whole v (packet_length h))

-- what is answered of a header that is there
data OfHeader (bytes : List ℕ) (h : Header) : Parsed → Type 0 where
  bad : (f : SessionFault) → HeaderFails h f → OfHeader bytes h (Refused f)
  short : (k : Kind) → IsGood h k → length bytes < packet_length h → OfHeader bytes h (More (packet_length h - length bytes))
  long : (parsed : Parsed) (k : Kind) → IsGood h k → packet_length h ≤ length bytes → OfWhole bytes h parsed → OfHeader bytes h parsed

-- what is answered
data Answer (bytes : List ℕ) : Parsed → Type 0 where
  none : length bytes < 4 → Answer bytes (More (4 - length bytes))
  some : (parsed : Parsed) (h : Header) → HasHeader bytes h → OfHeader bytes h parsed → Answer bytes parsed

-- a packet at the front, by its header
pub whole_headed : (v : Packet) (used : ℕ) (bytes : List ℕ) → used ≤ length bytes → IsPacket v (take used bytes) →
    (h : Header) × HasHeader bytes h × IsGood h (kind_of v) × (used ≡ packet_length h)
whole_headed v used bytes fits is =
    let x = packet_headed v (take used bytes) is in
    let long : used ≡ packet_length x.header = sym (length-take-le used bytes fits) ∙ x.long in
    (x.header, header_in_all bytes used x.header (omega (arith, long)) x.has, x.good, long)

answer_of : (bytes : List ℕ) (parsed : Parsed) → Parses bytes parsed → Answer bytes parsed
answer_of bytes parsed (header_lacks few) = none few
answer_of bytes parsed (header_fails h f has fault) = some _ h has (bad f fault)
answer_of bytes parsed (body_lacks h k has good few) = some _ h has (short k good few)
answer_of bytes parsed (body_fails h f has good fits fault) = some _ h has (long _ request good fits (fails f good fault))
answer_of bytes parsed (whole v used fits is) =
    let x = whole_headed v used bytes fits is in
    let long_is : used ≡ packet_length x.0 = x.3 in
    subst (λ (n : ℕ). Answer bytes (Whole v n)) (sym long_is)
    (some _ x.0 x.1 (long _ (kind_of v) x.2 (omega (arith, fits, long_is)) (read v x.2 (subst (λ (n : ℕ). IsPacket v (take n bytes)) long_is is))))

one_of_whole : (bytes : List ℕ) (h : Header) (p q : Parsed) → OfWhole bytes h p → OfWhole bytes h q → p ≡ q
one_of_whole bytes h p q (fails f good x) (fails g well y) = ap Refused (one_request_fault (take (packet_length h) bytes) f g x y)
one_of_whole bytes h p q (fails f good x) (read v well y) = absurd (no_fault v (take (packet_length h) bytes) f y (one_kind request (kind_of v) (good.type ∙ sym well.type)) x)
one_of_whole bytes h p q (read v well y) (fails f good x) = absurd (no_fault v (take (packet_length h) bytes) f y (one_kind request (kind_of v) (good.type ∙ sym well.type)) x)
one_of_whole bytes h p q (read v good x) (read w well y) = ap (λ (u : Packet). Whole u (packet_length h)) (one_value v w (take (packet_length h) bytes) x y)

one_of_header : (bytes : List ℕ) (h : Header) (p q : Parsed) → OfHeader bytes h p → OfHeader bytes h q → p ≡ q
one_of_header bytes h p q (bad f x) (bad g y) = ap Refused (one_header_fault h f g x y)
one_of_header bytes h p q (bad f x) (short k good few) = absurd (good_alone h k f good x)
one_of_header bytes h p q (bad f x) (long s k good fits y) = absurd (good_alone h k f good x)
one_of_header bytes h p q (short k good few) (bad f x) = absurd (good_alone h k f good x)
one_of_header bytes h p q (short k good few) (short j well less) = refl
one_of_header bytes h p q (short k good few) (long s j well fits y) = absurd (omega (arith, few, fits))
one_of_header bytes h p q (long s k good fits y) (bad f x) = absurd (good_alone h k f good x)
one_of_header bytes h p q (long s j well fits y) (short k good few) = absurd (omega (arith, few, fits))
one_of_header bytes h p q (long s k good fits x) (long t j well suits y) = one_of_whole bytes h p q x y

one_answer_of : (bytes : List ℕ) (p q : Parsed) → Answer bytes p → Answer bytes q → p ≡ q
one_answer_of bytes p q (none few) (none less) = refl
one_answer_of bytes p q (none few) (some s h has x) = absurd (omega (arith, few, header_within bytes h has))
one_answer_of bytes p q (some s h has x) (none few) = absurd (omega (arith, few, header_within bytes h has))
one_answer_of bytes p q (some s h has x) (some t k had y) =
    one_of_header bytes k p q (subst (λ (i : Header). OfHeader bytes i p) (one_header bytes h k has had) x) y

pub one_answer : (bytes : List ℕ) (p q : Parsed) → Parses bytes p → Parses bytes q → p ≡ q
one_answer bytes p q x y = one_answer_of bytes p q (answer_of bytes p x) (answer_of bytes q y)

-- ---- a packet and its fronts

pub packet_parses : (v : Packet) (bytes rest : List ℕ) → IsPacket v bytes → Parses (bytes ++ rest) (Whole v (length bytes))
packet_parses v bytes rest is =
    whole v (length bytes) (omega (arith, length-append bytes rest)) (subst (IsPacket v) (sym (take_at bytes rest (length bytes) refl)) is)

pub front_lacks_header : (v : Packet) (bytes : List ℕ) (count : ℕ) → IsPacket v bytes → count < 4 → Parses (take count bytes) (More (4 - count))
front_lacks_header v bytes count is few =
    let x = packet_headed v bytes is in
    let long : length (take count bytes) ≡ count = length-take-le count bytes (omega (arith, few, x.long)) in
    subst (λ (n : ℕ). Parses (take count bytes) (More (4 - n))) long (header_lacks (omega (arith, few, long)))

pub front_lacks_body : (v : Packet) (bytes : List ℕ) (count : ℕ) → IsPacket v bytes → 4 ≤ count → count < length bytes → Parses (take count bytes) (More (length bytes - count))
front_lacks_body v bytes count is four few =
    let x = packet_headed v bytes is in
    let long : length (take count bytes) ≡ count = length-take-le count bytes (omega (arith, few)) in
    let lacks : Parses (take count bytes) (More (packet_length x.header - length (take count bytes))) =
    body_lacks x.header (kind_of v) (header_in_front bytes count x.header four x.has) x.good (omega (arith, few, long, x.long)) in
    subst (λ (n : ℕ). Parses (take count bytes) (More (n - count))) (sym x.long)
    (subst (λ (n : ℕ). Parses (take count bytes) (More (packet_length x.header - n))) long lacks)

-- ---- a packet that stands

pub parses_whole : (bytes : List ℕ) (v : Packet) (used : ℕ) → Parses bytes (Whole v used) → (used ≤ length bytes) × IsPacket v (take used bytes)
parses_whole bytes v used (whole w n fits is) = (fits, is)

pub packet_parses_alone : (v : Packet) (bytes : List ℕ) → IsPacket v bytes → Parses bytes (Whole v (length bytes))
packet_parses_alone v bytes is = whole v (length bytes) (omega arith) (subst (IsPacket v) (sym (take_all (length bytes) bytes (omega arith))) is)

-- the same for the bytes from a place on
pub taken_whole : (bytes : List ℕ) (start used : ℕ) (v : Packet) → Parses (take (length bytes - start) (drop start bytes)) (Whole v used) → IsPacket v (take used (drop start bytes))
taken_whole bytes start used v stands =
    (parses_whole (drop start bytes) v used (subst (λ (b : List ℕ). Parses b (Whole v used)) (take_rest bytes start) stands)).1

-- ---- bytes that are read up to what judges them

-- bytes that don't hold the header lack some of it
pub short_lacks : (bytes : List ℕ) → length bytes < 4 → Lacks bytes
short_lacks bytes few = (_, header_lacks few)

-- the front of bytes with a good header lacks some, up to the packet's end
pub front_lacks : (bytes : List ℕ) (h : Header) (k : Kind) (count : ℕ) → HasHeader bytes h → IsGood h k → length bytes ≤ packet_length h → count < length bytes → Lacks (take count bytes)
front_lacks bytes h k count has good fits few =
    let same : length (take count bytes) ≡ count = length-take-le count bytes (omega (arith, few)) in
    front_lacks_by bytes h k count has good fits few same (cases_lt count 4) where
      front_lacks_by : (bytes : List ℕ) (h : Header) (k : Kind) (count : ℕ) → HasHeader bytes h → IsGood h k → length bytes ≤ packet_length h → count < length bytes → length (take count bytes) ≡ count → (count < 4) ⊎ (4 ≤ count) → Lacks (take count bytes)
      front_lacks_by bytes h k count has good fits few same (inl low) = short_lacks (take count bytes) (omega (arith, same, low))
      front_lacks_by bytes h k count has good fits few same (inr high) = (_, body_lacks h k (header_in_front bytes count h high has) good (omega (arith, same, few, fits)))

-- the bytes of a packet are judged by their last one
pub packet_judged : (bytes : List ℕ) (h : Header) (k : Kind) → HasHeader bytes h → IsGood h k → length bytes ≡ packet_length h → (count : ℕ) → count < length bytes → Lacks (take count bytes)
packet_judged bytes h k has good same count few = front_lacks bytes h k count has good (omega (arith, same)) few

-- so are those of a header alone
pub header_judged : (bytes : List ℕ) → length bytes ≡ 4 → (count : ℕ) → count < length bytes → Lacks (take count bytes)
header_judged bytes same count few = short_lacks (take count bytes) (omega (arith, same, few, length-take-le count bytes (omega (arith, few))))
