-- Packets: bytes begin with one at most, and with none where they have a fault.
use Rattle.std.proofs.Common.{◌≡◌, ℕ, ◌≤◌, List, ◌++◌, length, take, drop, refl, ap, sym, subst, ◌∙◌, arith, length-append, ◌+◌, ◌<◌, [], ◌∷◌}
use Rattle.std.proofs.lemmas.List.{take_at, drop_at}
use Rattle.nb_service.specs.declared.fault.ServiceFault.{ServiceFault}
use Rattle.nb_service.specs.declared.limits.TheConstants.{HEADER_LENGTH}
use Rattle.nb_service.specs.declared.record.Question.{Question}
use Rattle.nb_service.specs.Header.{PacketHeader, HasHeader}
use Rattle.nb_service.specs.Packet.{QuestionAt, RecordAt, Row, ServicePacket, header_of, records_of, IsPacket, none, more}
use Rattle.nb_service.specs.ServiceFaults.{QuestionFails, RecordFails, RowFails, record_count, PacketFails, cut_header, in_questions, in_records, item_count, IsRefused, no_memory}
use Rattle.nb_streams.specs.PacketFacts.{one_number_16, within_16}
use Rattle.nb_service.proofs.SectionLemmas.{one_row, no_row, one_row_fault}
use Rattle.nb_service.proofs.ItemLemmas.{single_question, single_record}
use Rattle.nb_service.specs.declared.fault.ServiceFault.TheVariants.{NoMemory}

pub one_header : (packet : List ℕ) (h g : PacketHeader) → HasHeader packet h → HasHeader packet g → h ≡ g
one_header packet h g a b = λ i. record {
  id = one_number_16 packet 0 h.id g.id a.id b.id i;
  word = one_number_16 packet 2 h.word g.word a.word b.word i;
  questions = one_number_16 packet 4 h.questions g.questions a.questions b.questions i;
  answers = one_number_16 packet 6 h.answers g.answers a.answers b.answers i;
  authorities = one_number_16 packet 8 h.authorities g.authorities a.authorities b.authorities i;
  additional = one_number_16 packet 10 h.additional g.additional a.additional b.additional i;
}

pub header_within : (packet : List ℕ) (h : PacketHeader) → HasHeader packet h → HEADER_LENGTH ≤ length packet
header_within packet h a = within_16 packet 10 h.additional a.additional

append_cancel : {A : Type 0} (xs ys us vs : List A) → xs ++ ys ≡ us ++ vs → length xs ≡ length us → (xs ≡ us) × (ys ≡ vs)
append_cancel xs ys us vs e long = (
  sym (take_at xs ys (length xs) refl) ∙ ap (take (length xs)) e ∙ take_at us vs (length xs) (sym long),
  sym (drop_at xs ys (length xs) refl) ∙ ap (drop (length xs)) e ∙ drop_at us vs (length xs) (sym long),
)

pub length-records_of : (p : ServicePacket) → length (records_of p) ≡ record_count (header_of p)
length-records_of p = omega (arith, length-append p.answers (p.authorities ++ p.additional), length-append p.authorities p.additional)

pub one_packet : (b : List ℕ) (p q : ServicePacket) (m n : ℕ) → IsPacket b p m → IsPacket b q n → (p ≡ q) × (m ≡ n)
one_packet b p q m n x y =
    let header : header_of p ≡ header_of q = one_header b (header_of p) (header_of q) x.header y.header in
    let counts : record_count (header_of p) ≡ record_count (header_of q) = ap record_count header in
    let few : length p.questions ≡ length q.questions = ap (λ (h : PacketHeader). h.questions) header in
    let questions = one_row (QuestionAt b) (QuestionFails b) (single_question b) HEADER_LENGTH x.after y.after p.questions q.questions x.questions y.questions few in
    let rest : Row (RecordAt b) x.after (records_of q) n = subst (λ (k : ℕ). Row (RecordAt b) k (records_of q) n) (sym questions.1) y.records in
    let records = one_row (RecordAt b) (RecordFails b) (single_record b) x.after m n (records_of p) (records_of q) x.records rest (length-records_of p ∙ counts ∙ sym (length-records_of q)) in
    let first = append_cancel p.answers (p.authorities ++ p.additional) q.answers (q.authorities ++ q.additional) records.0 (ap (λ (h : PacketHeader). h.answers) header) in
    let second = append_cancel p.authorities p.additional q.authorities q.additional first.1 (ap (λ (h : PacketHeader). h.authorities) header) in (
      λ i. record {
        id = ap (λ (h : PacketHeader). h.id) header i;
        word = ap (λ (h : PacketHeader). h.word) header i;
        questions = questions.0 i;
        answers = first.0 i;
        authorities = second.0 i;
        additional = second.1 i;
      },
      records.1,
    )

pub no_packet : (b : List ℕ) (p : ServicePacket) (n : ℕ) (f : ServiceFault) → IsPacket b p n → PacketFails b f → ⊥
no_packet b p n f x (cut_header low) = omega (arith, header_within b (header_of p) x.header)
no_packet b p n f x (in_questions h g r) =
    let same : length p.questions ≡ h.questions = ap (λ (k : PacketHeader). k.questions) (one_header b (header_of p) h x.header g) in
    no_row (QuestionAt b) (QuestionFails b) (single_question b) HEADER_LENGTH x.after p.questions f x.questions
    (subst (λ (k : ℕ). RowFails (QuestionAt b) (QuestionFails b) HEADER_LENGTH k f) (sym same) r)
no_packet b p n f x (in_records h qs after g before count r) =
    let header : header_of p ≡ h = one_header b (header_of p) h x.header g in
    let few : length p.questions ≡ length qs = ap (λ (k : PacketHeader). k.questions) header ∙ sym count in
    let questions = one_row (QuestionAt b) (QuestionFails b) (single_question b) HEADER_LENGTH x.after after p.questions qs x.questions before few in
    let same : length (records_of p) ≡ record_count h = length-records_of p ∙ ap record_count header in
    let moved : RowFails (RecordAt b) (RecordFails b) x.after (record_count h) f = subst (λ (k : ℕ). RowFails (RecordAt b) (RecordFails b) k (record_count h) f) (sym questions.1) r in
    no_row (RecordAt b) (RecordFails b) (single_record b) x.after n (records_of p) f x.records
    (subst (λ (k : ℕ). RowFails (RecordAt b) (RecordFails b) x.after k f) (sym same) moved)

-- a fault in the questions and one after them
questions_apart : (b : List ℕ) (f : ServiceFault) (h g : PacketHeader) (qs : List Question) (after : ℕ) → HasHeader b h → HasHeader b g →
    RowFails (QuestionAt b) (QuestionFails b) HEADER_LENGTH h.questions f → Row (QuestionAt b) HEADER_LENGTH qs after → length qs ≡ g.questions → ⊥
questions_apart b f h g qs after x y r before count =
    let same : length qs ≡ h.questions = count ∙ ap (λ (k : PacketHeader). k.questions) (one_header b g h y x) in
    no_row (QuestionAt b) (QuestionFails b) (single_question b) HEADER_LENGTH after qs f before
    (subst (λ (k : ℕ). RowFails (QuestionAt b) (QuestionFails b) HEADER_LENGTH k f) (sym same) r)

pub one_packet_fault : (b : List ℕ) (f g : ServiceFault) → PacketFails b f → PacketFails b g → f ≡ g
one_packet_fault b f g (cut_header low) (cut_header few) = refl
one_packet_fault b f g (cut_header low) (in_questions k y s) = absurd (omega (arith, header_within b k y))
one_packet_fault b f g (cut_header low) (in_records k qs n y before count s) = absurd (omega (arith, header_within b k y))
one_packet_fault b f g (in_questions h x r) (cut_header few) = absurd (omega (arith, header_within b h x))
one_packet_fault b f g (in_questions h x r) (in_questions k y s) =
    one_row_fault (QuestionAt b) (QuestionFails b) (single_question b) HEADER_LENGTH h.questions k.questions f g r s
one_packet_fault b f g (in_questions h x r) (in_records k qs n y before count s) = absurd (questions_apart b f h k qs n x y r before count)
one_packet_fault b f g (in_records h qs n x before count r) (cut_header few) = absurd (omega (arith, header_within b h x))
one_packet_fault b f g (in_records h qs n x before count r) (in_questions k y s) = absurd (questions_apart b g k h qs n y x s before count)
one_packet_fault b f g (in_records h qs n x before count r) (in_records k rs m y after counts s) =
    let few : length qs ≡ length rs = count ∙ ap (λ (z : PacketHeader). z.questions) (one_header b h k x y) ∙ sym counts in
    let same = one_row (QuestionAt b) (QuestionFails b) (single_question b) HEADER_LENGTH n m qs rs before after few in
    one_row_fault (RecordAt b) (RecordFails b) (single_record b) n (record_count h) (record_count k) f g r
    (subst (λ (z : ℕ). RowFails (RecordAt b) (RecordFails b) z (record_count k) g) (sym same.1) s)

-- ---- the end of a packet is within the bytes

row_within : {A : Type 0} (S : ℕ → A → ℕ → Type 0) (limit : ℕ) → ((at n : ℕ) (x : A) → S at x n → n ≤ limit) → (at n : ℕ) (xs : List A) → Row S at xs n → at ≤ limit → n ≤ limit
row_within S limit each at n [] none low = low
row_within S limit each at n (x ∷ xs) (more b y ys h r) low = row_within S limit each b n ys r (each at b y h)

pub packet_within : (b : List ℕ) (p : ServicePacket) (n : ℕ) → IsPacket b p n → n ≤ length b
packet_within b p n x =
    let questions = row_within (QuestionAt b) (length b) (λ at m q h. omega (arith, h.end, within_16 b (h.after + 2) q.class h.class)) HEADER_LENGTH x.after p.questions x.questions (header_within b (header_of p) x.header) in
    row_within (RecordAt b) (length b) (λ at m r h. omega (arith, h.end, h.whole)) x.after n (records_of p) x.records questions

-- a packet for whose items memory ran out
pub refused_memory : (b : List ℕ) (h : PacketHeader) (p : ServicePacket) (used : ℕ) → IsPacket b p used × (header_of p ≡ h) → 0 < item_count h → IsRefused b NoMemory
refused_memory b h p used is some =
    let same : item_count (header_of p) ≡ item_count h = ap item_count is.1 in
    no_memory p used is.0 (omega (arith, same, some, length-records_of p))

pub ruleset header_laws = (one_header, header_within)
