-- The requests that are built (RFC 1002 sections 4.2.2, 4.2.4, 4.2.9, 4.2.12 and 4.2.17), as packets.
-- A request asks about one name in its one question.
--
-- Our choice: a refresh has opcode 8, and RD is clear in it.
use Rattle.std.specs.Prelude.{ℕ, ◌+◌, ◌*◌, ◌^◌, Bool, true, false, List, [], ◌∷◌, ◌≤◌, ◌++◌, length}
use Rattle.nb_names.specs.Name.{NetbiosName, labels_of_name}
use Rattle.nb_service.specs.declared.classes.TheConstants.{IN}
use Rattle.nb_service.specs.declared.kinds.TheConstants.{NB, NBSTAT}
use Rattle.nb_service.specs.declared.record.Question.{Question}
use Rattle.nb_service.specs.Record.{of_bytes, record_of, ResourceRecord}
use Rattle.nb_service.specs.Packet.{ServicePacket}
use Rattle.nb_service.specs.declared.limits.TheConstants.{MAX_ENTRIES}
use Rattle.nb_service.specs.declared.packet.Section.{Section}
use Rattle.nb_service.specs.declared.packet.Section.TheVariants.{Answer, Authority, Additional}

-- ---- packets built part by part

-- packet_of id word questions answers authorities additional: the packet of these parts
abbrev pub packet_of : ℕ → ℕ → List Question → List ResourceRecord → List ResourceRecord → List ResourceRecord → ServicePacket
packet_of id word questions answers authorities additional =
    record {
      id = id;
      word = word;
      questions = questions;
      answers = answers;
      authorities = authorities;
      additional = additional;
    }

-- a packet without questions and records
abbrev pub empty_packet : ℕ → ℕ → ServicePacket
empty_packet id word = packet_of id word [] [] [] []

-- the packet with one more question, after the others
abbrev pub with_question : ServicePacket → Question → ServicePacket
with_question packet question = record packet { questions = packet.questions ++ question ∷ [] }

-- with_record packet section entry: the packet with one more record in this section, after the others
abbrev pub with_record : ServicePacket → Section → ResourceRecord → ServicePacket
with_record packet Answer entry = record packet { answers = packet.answers ++ entry ∷ [] }
with_record packet Authority entry = record packet { authorities = packet.authorities ++ entry ∷ [] }
with_record packet Additional entry = record packet { additional = packet.additional ++ entry ∷ [] }

-- the records of a section
abbrev pub section_of : ServicePacket → Section → List ResourceRecord
section_of packet Answer = packet.answers
section_of packet Authority = packet.authorities
section_of packet Additional = packet.additional

-- no item can be added: a count in the header has sixteen bits (RFC 1002 section 4.2.1.1)
abbrev pub IsFull : {A : Type 0} → List A → Type 0
IsFull items = MAX_ENTRIES ≤ length items

-- each list of a packet is short enough for its count in the header
pub record IsCounted (packet : ServicePacket) : Type 0 where
  pub questions : length packet.questions ≤ MAX_ENTRIES
  pub answers : length packet.answers ≤ MAX_ENTRIES
  pub authorities : length packet.authorities ≤ MAX_ENTRIES
  pub additional : length packet.additional ≤ MAX_ENTRIES

-- request_word opcode desired broadcast: a flag word with this OPCODE, and RD and B as asked
abbrev pub request_word : ℕ → ℕ → Bool → ℕ
request_word opcode desired true = opcode * 2 ^ 11 + desired * 2 ^ 8 + 2 ^ 4
request_word opcode desired false = opcode * 2 ^ 11 + desired * 2 ^ 8

-- asking kind name: the question about a name
abbrev pub asking : ℕ → NetbiosName → Question
asking kind name = record { name = labels_of_name name; kind = kind; class = IN }

-- inquiry id word kind name: a packet with this question alone
abbrev pub inquiry : ℕ → ℕ → ℕ → NetbiosName → ServicePacket
inquiry id word kind name = packet_of id word (asking kind name ∷ []) [] [] []

-- claim id word name ttl entry: a packet with a question about a name, and the name's record
abbrev pub claim : ℕ → ℕ → NetbiosName → ℕ → List ℕ → ServicePacket
claim id word name ttl entry =
    packet_of id word (asking NB name ∷ []) [] []
    (record_of (labels_of_name name) NB IN ttl (of_bytes entry) ∷ [])

-- a name query: opcode 0, RD set
abbrev pub query_packet : ℕ → NetbiosName → Bool → ServicePacket
query_packet id name broadcast = inquiry id (request_word 0 1 broadcast) NB name

-- a node status request: opcode 0, RD clear
abbrev pub status_packet : ℕ → NetbiosName → Bool → ServicePacket
status_packet id name broadcast = inquiry id (request_word 0 0 broadcast) NBSTAT name

-- a registration: opcode 5, RD set
abbrev pub registration_packet : ℕ → NetbiosName → Bool → ℕ → List ℕ → ServicePacket
registration_packet id name broadcast ttl entry = claim id (request_word 5 1 broadcast) name ttl entry

-- a refresh: opcode 8, RD clear
abbrev pub refresh_packet : ℕ → NetbiosName → Bool → ℕ → List ℕ → ServicePacket
refresh_packet id name broadcast ttl entry = claim id (request_word 8 0 broadcast) name ttl entry

-- a release: opcode 6, RD clear, and no time to live
abbrev pub release_packet : ℕ → NetbiosName → Bool → List ℕ → ServicePacket
release_packet id name broadcast entry = claim id (request_word 6 0 broadcast) name 0 entry

-- ---- the responses that are built: packets with one answer, and no question (RFC 1002 sections 4.2.5 to 4.2.18)
-- Of these sections all but 4.2.8 and 4.2.15 have such packets.

-- one_answer id word answer: a packet with this answer, and nothing else
abbrev pub one_answer : ℕ → ℕ → ResourceRecord → ServicePacket
one_answer id word answer = packet_of id word [] (answer ∷ []) [] []
