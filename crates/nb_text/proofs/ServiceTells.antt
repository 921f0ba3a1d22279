-- The text of a name service packet tells the packet.
use Rattle.std.proofs.Common.{◌≡◌, ℕ, ◌<◌, ◌^◌, List, [], ◌++◌, length, refl, ap, arith, codes}
use Rattle.std.specs.List.{AllByRecursion, flat_map}
use Rattle.std.specs.Fmt.{decimal}
use Rattle.std.proofs.lemmas.Fmt.{decimal_injective}
use Rattle.nb_streams.specs.Places.{AreBytes}
use Rattle.nb_streams.specs.Hexadecimal.{word_text}
use Rattle.nb_service.specs.declared.record.Question.{Question}
use Rattle.nb_service.specs.Packet.{ServicePacket, header_of, IsPacket}
use Rattle.nb_service.specs.Record.{ResourceData, of_bytes, of_domain, ResourceRecord}
use Rattle.nb_text.specs.Lines.{line_end, used_text}
use Rattle.nb_text.specs.ServiceFields.{named_fields, head_fields}
use Rattle.nb_text.specs.ServiceText.{state_text, counts_text, header_line, question_line, rdata_text, record_line, record_lines, service_text}
use Rattle.nb_text.specs.Views.{lines_by}
use Rattle.nb_text.proofs.FieldLemmas.{number_word}
use Rattle.nb_text.proofs.FieldTells.{number_tells, word_tells, word_then, data_tells}
use Rattle.nb_text.proofs.FormFields.{lists_text}
use Rattle.nb_text.proofs.LabelTells.{labels_same, labels_tell}
use Rattle.nb_text.proofs.RowLemmas.{rows_tell, value_at}
use Rattle.nb_text.proofs.ServiceLines.{IsCounted, IsShownQuestion, IsShownRecord, IsShownPacket, named_shown, head_shown, packet_stands}
use Rattle.nb_text.proofs.TellLemmas.{EndsField, Tells, space, feed, tells_whole, seen_tells, both_tell, field_then, after_tells, same_tells, differ_tells, tells_then, TellsAfter, both_after, each_after}
use Rattle.nb_text.proofs.ViewLemmas.{IsByteData, view_ends}

-- ---- the header

end_tells : Tells line_end line_end (Unit {0})
end_tells = same_tells line_end line_end refl

-- how many bytes a packet takes up tells nothing of it
used_tells : (m n : ℕ) → Tells (used_text m) (used_text n) (Unit {0})
used_tells m n =
    let number = seen_tells {F = Unit {0}} (decimal m) (decimal n) (number_word m).1 (number_word n).1 (λ _. tt) in
    tells_then (field_then (codes " used=") number end_tells feed feed) (λ _. tt)

-- Counts p q: the packets have as many items of each sort
pub record Counts (p q : ServicePacket) : Type 0 where
  pub questions : length p.questions ≡ length q.questions
  pub answers : length p.answers ≡ length q.answers
  pub authorities : length p.authorities ≡ length q.authorities
  pub additional : length p.additional ≡ length q.additional

counts_tell : (p q : ServicePacket) → IsCounted p → IsCounted q → Tells (counts_text (header_of p)) (counts_text (header_of q)) (Counts p q)
counts_tell p q a b =
    let additional = after_tells (codes " ar=") (number_tells (length p.additional) (length q.additional) a.additional b.additional) in
    let authorities = field_then (codes " ns=") (number_tells (length p.authorities) (length q.authorities) a.authorities b.authorities) additional space space in
    let answers = field_then (codes " an=") (number_tells (length p.answers) (length q.answers) a.answers b.answers) authorities space space in
    tells_then (field_then (codes " qd=") (number_tells (length p.questions) (length q.questions) a.questions b.questions) answers space space)
    (λ h. record { questions = h.0; answers = h.1.0; authorities = h.1.1.0; additional = h.1.1.1 })

-- SameHeader p q: the packets have one identifier, one flag word, and as many items of each sort
pub record SameHeader (p q : ServicePacket) : Type 0 where
  pub id : p.id ≡ q.id
  pub word : p.word ≡ q.word
  pub counts : Counts p q

header_tells : (p q : ServicePacket) (m n : ℕ) → IsCounted p → IsCounted q → Tells (header_line (header_of p) m) (header_line (header_of q) n) (SameHeader p q)
header_tells p q m n a b =
    let word = after_tells (codes " word=") (word_tells p.word q.word a.word b.word) in
    let identity = field_then (codes "id=") (word_tells p.id q.id a.id b.id) word space space in
    let rest = both_tell (counts_tell p q a b) (λ _. used_tells m n) space space in
    tells_then
    (both_tell identity (λ h. both_tell (same_tells (state_text p.word) (state_text q.word) (ap state_text h.1)) (λ _. rest) space space) space space)
    (λ h. record { id = h.0.0; word = h.0.1; counts = h.1.1.0 })

-- ---- questions

-- numbers of sixteen bits that are shown alike
word_same : (m n : ℕ) → m < 2 ^ 16 → n < 2 ^ 16 → word_text m ≡ word_text n → m ≡ n
word_same m n a b e = (word_then m n [] [] a b (ap (λ (t : List ℕ). t ++ []) e)).0

question_tells : (x y : Question) → IsShownQuestion x → IsShownQuestion y → Tells (question_line x) (question_line y) (x ≡ y)
question_tells x y a b =
    let own = named_fields x.name x.kind x.class in
    let shown = named_shown x.name x.kind x.class a.name in
    let other = named_shown y.name y.kind y.class b.name in
    let row = rows_tell own (named_fields y.name y.kind y.class) refl refl refl shown other end_tells feed feed in
    tells_then (after_tells (codes "  question") row)
    (λ h. λ i. record {
      name = labels_same x.name y.name a.name b.name (ap (value_at (codes " ") own) h.0) i;
      kind = word_same x.kind y.kind a.kind b.kind (ap (value_at (codes " type=") own) h.0) i;
      class = word_same x.class y.class a.class b.class (ap (value_at (codes " class=") own) h.0) i;
    })

-- ---- records

rdata_tells : (x y : ResourceData) → IsByteData x → IsByteData y → Tells (rdata_text x) (rdata_text y) (x ≡ y)
rdata_tells (of_bytes xs) (of_bytes ys) a b = tells_then (after_tells (codes " data=") (data_tells xs ys a b)) (ap of_bytes)
rdata_tells (of_domain xs) (of_domain ys) a b = tells_then (after_tells (codes " domain=") (labels_tell xs ys a b)) (ap of_domain)
rdata_tells (of_bytes xs) (of_domain ys) a b = differ_tells _ _ (λ r s. refl)
rdata_tells (of_domain xs) (of_bytes ys) a b = differ_tells _ _ (λ r s. refl)

rdata_space : (x : ResourceData) → EndsField (rdata_text x ++ line_end)
rdata_space (of_bytes xs) = space
rdata_space (of_domain xs) = space

record_tells : (section : List ℕ) (x y : ResourceRecord) → IsShownRecord x → IsShownRecord y
    → Tells (record_line section x) (record_line section y) (x ≡ y)
record_tells section x y a b =
    let low = a.ttl in
    let small = b.ttl in
    let own = head_fields x.name x.kind x.class x.ttl in
    let rdata = both_tell (rdata_tells x.rdata y.rdata a.rdata b.rdata) (λ _. end_tells) feed feed in
    let row = rows_tell own (head_fields y.name y.kind y.class y.ttl) refl refl refl (head_shown x a) (head_shown y b) rdata (rdata_space x.rdata) (rdata_space y.rdata) in
    tells_then (after_tells (codes "  ") (after_tells section row))
    (λ h. λ i. record {
      name = labels_same x.name y.name a.name b.name (ap (value_at (codes " ") own) h.0) i;
      kind = word_same x.kind y.kind a.kind b.kind (ap (value_at (codes " type=") own) h.0) i;
      class = word_same x.class y.class a.class b.class (ap (value_at (codes " class=") own) h.0) i;
      ttl = decimal_injective x.ttl y.ttl (omega (arith, low)) (omega (arith, small)) (ap (value_at (codes " ttl=") own) h.0) i;
      rdata = h.1.0 i;
    })

-- the lines of its parts are of the record that its own line told
lines_tell : (section : List ℕ) (x y : ResourceRecord) → IsShownRecord x → IsShownRecord y
    → Tells (record_lines section x) (record_lines section y) (x ≡ y)
lines_tell section x y a b =
    tells_then
    (both_tell (record_tells section x y a b)
    (λ same. same_tells _ _ (ap (λ (entry : ResourceRecord). lines_by entry.kind entry.rdata) same))
    (view_ends x.kind x.rdata a.rdata) (view_ends y.kind y.rdata b.rdata))
    (λ h. h.0)

section_tells : (section : List ℕ) (xs ys : List ResourceRecord) → length xs ≡ length ys → AllByRecursion IsShownRecord xs
    → AllByRecursion IsShownRecord ys → TellsAfter (flat_map (record_lines section) xs) (flat_map (record_lines section) ys) (xs ≡ ys)
section_tells section xs ys size a b = each_after IsShownRecord (record_lines section) xs ys size a b (λ _. space) (lines_tell section)

-- ---- the packet

lists_tell : (p q : ServicePacket) → Counts p q → IsShownPacket p → IsShownPacket q
    → TellsAfter (lists_text p) (lists_text q)
    ((p.questions ≡ q.questions) × ((p.answers ≡ q.answers) × ((p.authorities ≡ q.authorities) × (p.additional ≡ q.additional))))
lists_tell p q same a b =
    both_after (each_after IsShownQuestion question_line p.questions q.questions same.questions a.questions b.questions (λ _. space) question_tells)
    (both_after (section_tells (codes "answer") p.answers q.answers same.answers a.answers b.answers)
    (both_after (section_tells (codes "authority") p.authorities q.authorities same.authorities a.authorities b.authorities)
    (section_tells (codes "additional") p.additional q.additional same.additional a.additional b.additional)))

lists_space : (p : ServicePacket) → IsShownPacket p → EndsField (lists_text p)
lists_space p a = (lists_tell p p (record { questions = refl; answers = refl; authorities = refl; additional = refl }) a a).here

packet_tells : (p q : ServicePacket) (m n : ℕ) → IsShownPacket p → IsShownPacket q → Tells (service_text p m) (service_text q n) (p ≡ q)
packet_tells p q m n a b =
    tells_then
    (both_tell (header_tells p q m n a.counted b.counted) (λ h. (lists_tell p q h.counts a b).tells) (lists_space p a) (lists_space q b))
    (λ h. λ i. record {
      id = h.0.id i;
      word = h.0.word i;
      questions = h.1.0 i;
      answers = h.1.1.0 i;
      authorities = h.1.1.1.0 i;
      additional = h.1.1.1.1 i;
    })

pub service_tells : (payload other : List ℕ) (packet same : ServicePacket) (used after shown again : ℕ) → AreBytes payload → AreBytes other
    → IsPacket payload packet used → IsPacket other same after → service_text packet shown ≡ service_text same again → packet ≡ same
service_tells payload other packet same used after shown again a b here there e =
    tells_whole (packet_tells packet same shown again (packet_stands payload packet used a here) (packet_stands other same after b there)) e
