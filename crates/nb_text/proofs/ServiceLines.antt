-- The text of a packet of port 137 is a line of words, and then lines of parts.
use Rattle.std.proofs.Common.{◌≡◌, ◌==◌, ℕ, ◌+◌, ◌<◌, ◌^◌, true, List, [], ◌∷◌, ◌++◌, length, Option, Some, None, refl, arith, codes}
use Rattle.std.specs.List.{AllByRecursion, flat_map, list_all}
use Rattle.std.proofs.lemmas.Bool.{and_parts}
use Rattle.nb_streams.specs.Places.{AreBytes}
use Rattle.nb_streams.specs.Hexadecimal.{data_text, word_text}
use Rattle.nb_names.specs.Labels.{NameAt}
use Rattle.nb_names.specs.NameText.{labels_written}
use Rattle.nb_names.specs.declared.reading.Pointers.TheVariants.{Followed}
use Rattle.nb_names.proofs.LabelsLemmas.{IsDomain-read}
use Rattle.nb_service.specs.declared.record.Question.{Question}
use Rattle.nb_service.specs.Header.{opcode_of, rcode_of, PacketHeader}
use Rattle.nb_service.specs.Packet.{ServicePacket, header_of, IsPacket, QuestionAt, RecordAt, RdataAt, bytes_there, domain_there, Row, none, more}
use Rattle.nb_service.specs.Record.{ResourceData, of_bytes, of_domain, ResourceRecord}
use Rattle.nb_service.proofs.SectionLemmas.{sections}
use Rattle.nb_text.specs.Fields.{IsWord, two, AreLines}
use Rattle.nb_text.specs.Words.{word_of, operations, results, operation_word, rcode_word, named_text, packet_flags, set_text}
use Rattle.nb_text.specs.ServiceFields.{named_fields, head_fields}
use Rattle.nb_text.specs.ServiceText.{state_text, counts_text, header_line, question_line, rdata_text, record_line, record_lines, service_text}
use Rattle.nb_text.proofs.FieldLemmas.{IsSeen, number_word, word_seen, word_word, is_literal, literal, data_word, labels_word, packet_set_word}
use Rattle.nb_text.proofs.MidLemmas.{IsMid, mid_then, mid_both, mid_seen, mid_field, number_field, used_ends, ends_here, AreParts, parts_both, parts_each, part_line, lines_then, IsNamed, chosen, bytes-stand, labels_bytes}
use Rattle.nb_text.proofs.RowLemmas.{AreShown, row_ends}
use Rattle.nb_text.proofs.ViewLemmas.{AreLabels, IsByteData, view_parts}

-- ---- the header

-- the words of a table are written out
word_named : (table : List (ℕ × List ℕ)) (n : ℕ) → list_all (λ (row : ℕ × List ℕ). is_literal row.1) table ≡ true → IsNamed (word_of table n)
word_named [] n h = tt
word_named (row ∷ rows) n h =
    let parts = and_parts (is_literal row.1) (list_all (λ (each : ℕ × List ℕ). is_literal each.1) rows) h in
    chosen (n == row.0) (Some row.1) (word_of rows n) (literal row.1 parts.0) (word_named rows n parts.1)

named_seen : (name : Option (List ℕ)) (n : ℕ) → IsNamed name → IsSeen (named_text name n)
named_seen (Some word) n h = h.1
named_seen None n h = (number_word n).1

named_field : (cs : List ℕ) (name : Option (List ℕ)) (n : ℕ) → is_literal cs ≡ true → IsNamed name → IsMid (32 ∷ (cs ++ named_text name n))
named_field cs name n h named = mid_field cs (named_text name n) h (named_seen name n named)

state_mid : (word : ℕ) → IsMid (state_text word)
state_mid word =
    mid_both (named_field (codes "op=") (operation_word (opcode_of word)) (opcode_of word) refl (word_named operations (opcode_of word) refl))
    (mid_both (mid_field (codes "flags=") (set_text packet_flags word) refl (packet_set_word word).1)
    (named_field (codes "rcode=") (rcode_word (rcode_of word)) (rcode_of word) refl (word_named results (rcode_of word) refl)))

counts_mid : (header : PacketHeader) → IsMid (counts_text header)
counts_mid header =
    mid_both (number_field (codes "qd=") header.questions refl) (mid_both (number_field (codes "an=") header.answers refl)
    (mid_both (number_field (codes "ns=") header.authorities refl) (number_field (codes "ar=") header.additional refl)))

header_lines : (header : PacketHeader) (used : ℕ) → AreLines (header_line header used)
header_lines header used =
    (mid_then (mid_both (mid_seen (word_text header.id) (word_seen header.id)) (mid_field (codes "word=") (word_text header.word) refl (word_seen header.word)))
    (mid_then (state_mid header.word) (mid_then (counts_mid header) (used_ends used)))).lines (codes "id=") (literal (codes "id=") refl)

-- ---- questions and records

-- a question that stands in bytes, with its numbers
pub record IsShownQuestion (question : Question) : Type 0 where
  pub name : AreLabels question.name
  pub kind : question.kind < 2 ^ 16
  pub class : question.class < 2 ^ 16

-- the values of its line are words
pub named_shown : (labels : List (List ℕ)) (kind class : ℕ) → AreLabels labels → AreShown (named_fields labels kind class)
named_shown labels kind class h = (labels_word labels h.0 h.1, (word_word kind, (word_word class, tt)))

question_parts : (question : Question) → IsShownQuestion question → AreParts (question_line question)
question_parts question h =
    let row = named_fields question.name question.kind question.class in
    part_line (codes "  ") two
    ((row_ends row refl (named_shown question.name question.kind question.class h.name) ends_here).lines (codes "question") (literal (codes "question") refl))

-- RDATA that stands in bytes
rdata_mid : (rdata : ResourceData) → IsByteData rdata → IsMid (rdata_text rdata)
rdata_mid (of_bytes bytes) h = mid_field (codes "data=") (data_text bytes) refl (data_word bytes h).1
rdata_mid (of_domain labels) h = mid_field (codes "domain=") (labels_written labels) refl (labels_word labels h.0 h.1).1

-- a record that stands in bytes, with its numbers
pub record IsShownRecord (entry : ResourceRecord) : Type 0 where
  pub name : AreLabels entry.name
  pub kind : entry.kind < 2 ^ 16
  pub class : entry.class < 2 ^ 16
  pub ttl : entry.ttl < 2 ^ 32
  pub rdata : IsByteData entry.rdata

-- the values before its RDATA are words
pub head_shown : (entry : ResourceRecord) → IsShownRecord entry → AreShown (head_fields entry.name entry.kind entry.class entry.ttl)
head_shown entry h = named_shown entry.name entry.kind entry.class h.name

record_parts : (section : List ℕ) (entry : ResourceRecord) → IsWord section → IsShownRecord entry → AreParts (record_line section entry)
record_parts section entry is h =
    let row = head_fields entry.name entry.kind entry.class entry.ttl in
    part_line (codes "  ") two
    ((row_ends row refl (head_shown entry h) (mid_then (rdata_mid entry.rdata h.rdata) ends_here)).lines section is)

each_parts : (section : List ℕ) → IsWord section → (entry : ResourceRecord) → IsShownRecord entry → AreParts (record_lines section entry)
each_parts section is entry h =
    parts_both (record_parts section entry is h) (view_parts entry.kind entry.rdata h.rdata)

section_parts : (section : List ℕ) (entries : List ResourceRecord) → IsWord section → AllByRecursion IsShownRecord entries
    → AreParts (flat_map (record_lines section) entries)
section_parts section entries is h = parts_each IsShownRecord (record_lines section) entries h (each_parts section is)

-- ---- what stands in bytes

-- labels that stand there are of bytes, and a domain name's
labels_stand : (payload : List ℕ) (at : ℕ) (labels : List (List ℕ)) (next : ℕ) → AreBytes payload
    → NameAt payload Followed at labels next → AreLabels labels
labels_stand payload at labels next a name =
    (IsDomain-read payload Followed at at labels next name, labels_bytes payload Followed at at labels next a name)

questions_stand : (payload : List ℕ) (at : ℕ) (questions : List Question) (next : ℕ) → AreBytes payload
    → Row (QuestionAt payload) at questions next → AllByRecursion IsShownQuestion questions
questions_stand payload at _ next a none = tt
questions_stand payload at _ next a (more between question questions one rest) = (
  record { name = labels_stand payload at question.name one.after a one.name; kind = one.kind.fits; class = one.class.fits },
  questions_stand payload between questions next a rest,
)

rdata_stands : (payload : List ℕ) (at size kind : ℕ) (rdata : ResourceData) → AreBytes payload → RdataAt payload at size kind rdata
    → IsByteData rdata
rdata_stands payload at size kind _ a (bytes_there bytes other long stands) = bytes-stand payload bytes at a stands
rdata_stands payload at size kind _ a (domain_there labels is name) = labels_stand payload at labels (at + size) a name

record_stands : (payload : List ℕ) (at : ℕ) (entry : ResourceRecord) (next : ℕ) → AreBytes payload → RecordAt payload at entry next
    → IsShownRecord entry
record_stands payload at entry next a one = record {
  name = labels_stand payload at entry.name one.after a one.name;
  kind = one.kind.fits;
  class = one.class.fits;
  ttl = one.ttl.fits;
  rdata = rdata_stands payload (one.after + 10) one.size entry.kind entry.rdata a one.rdata;
}

records_stand : (payload : List ℕ) (at : ℕ) (entries : List ResourceRecord) (next : ℕ) → AreBytes payload
    → Row (RecordAt payload) at entries next → AllByRecursion IsShownRecord entries
records_stand payload at _ next a none = tt
records_stand payload at _ next a (more between entry entries one rest) =
    (record_stands payload at entry between a one, records_stand payload between entries next a rest)

-- a packet whose header has room for it
pub record IsCounted (p : ServicePacket) : Type 0 where
  pub id : p.id < 2 ^ 16
  pub word : p.word < 2 ^ 16
  pub questions : length p.questions < 2 ^ 64
  pub answers : length p.answers < 2 ^ 64
  pub authorities : length p.authorities < 2 ^ 64
  pub additional : length p.additional < 2 ^ 64

-- a packet that stands in bytes
pub record IsShownPacket (p : ServicePacket) : Type 0 where
  pub counted : IsCounted p
  pub questions : AllByRecursion IsShownQuestion p.questions
  pub answers : AllByRecursion IsShownRecord p.answers
  pub authorities : AllByRecursion IsShownRecord p.authorities
  pub additional : AllByRecursion IsShownRecord p.additional

pub packet_stands : (payload : List ℕ) (packet : ServicePacket) (used : ℕ) → AreBytes payload → IsPacket payload packet used → IsShownPacket packet
packet_stands payload packet used a is =
    let at = sections payload packet used is in
    let questions = is.header.questions.fits in
    let answers = is.header.answers.fits in
    let authorities = is.header.authorities.fits in
    let additional = is.header.additional.fits in
    record {
      counted = record {
        id = is.header.id.fits;
        word = is.header.word.fits;
        questions = omega (arith, questions);
        answers = omega (arith, answers);
        authorities = omega (arith, authorities);
        additional = omega (arith, additional);
      };
      questions = questions_stand payload _ packet.questions at.answers a at.first;
      answers = records_stand payload at.answers packet.answers at.authorities a at.second;
      authorities = records_stand payload at.authorities packet.authorities at.additional a at.third;
      additional = records_stand payload at.additional packet.additional used a at.last;
    }

-- ---- the packet

pub service_lines : (payload : List ℕ) (packet : ServicePacket) (used : ℕ) → AreBytes payload → IsPacket payload packet used
    → AreLines (service_text packet used)
service_lines payload packet used a is =
    let h = packet_stands payload packet used a is in
    lines_then (header_lines (header_of packet) used)
    (parts_both (parts_each IsShownQuestion question_line packet.questions h.questions question_parts)
    (parts_both (section_parts (codes "answer") packet.answers (literal (codes "answer") refl) h.answers)
    (parts_both (section_parts (codes "authority") packet.authorities (literal (codes "authority") refl) h.authorities)
    (section_parts (codes "additional") packet.additional (literal (codes "additional") refl) h.additional))))
