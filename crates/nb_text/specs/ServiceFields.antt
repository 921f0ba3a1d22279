-- The fields of a name service packet, port 137 (our choice): those of the header, then lists of the questions and of the
-- records, each with the parts of its RDATA.
use Rattle.std.specs.Prelude.{ℕ, List, [], ◌∷◌, ◌++◌, codes, Option, Some, None}
use Rattle.std.specs.List.{flat_map}
use Rattle.nb_names.specs.NameText.{labels_written}
use Rattle.nb_service.specs.declared.record.Question.{Question}
use Rattle.nb_service.specs.Header.{opcode_of, rcode_of, PacketHeader}
use Rattle.nb_service.specs.Packet.{ServicePacket, header_of}
use Rattle.nb_service.specs.Record.{ResourceData, of_bytes, of_domain, ResourceRecord}
use Rattle.nb_telling.specs.Telling.{Field, FieldTag, Text, Number, Data, Set, Part, PartEnds, LineEnds}
use Rattle.nb_text.specs.Tags.{tag_named, id_tag, name_tag}
use Rattle.nb_text.specs.Fields.{used_fields, list_fields, word_field}
use Rattle.nb_text.specs.Views.{fields_by}
use Rattle.nb_text.specs.Words.{operation_word, rcode_word, names_set, packet_flags}

-- ---- the header

-- a number by its name, where it has one
abbrev pub named_field : FieldTag → Option (List ℕ) → ℕ → Field
named_field key (Some word) n = Text key word
named_field key None n = Number key n

-- what the flag word says
abbrev pub state_fields : ℕ → List Field
state_fields word =
    named_field (tag_named "op") (operation_word (opcode_of word)) (opcode_of word)
    ∷ Set (tag_named "flags") (names_set packet_flags word)
    ∷ named_field (tag_named "rcode") (rcode_word (rcode_of word)) (rcode_of word) ∷ []

-- how many questions, answers, authorities and additional records there are
abbrev pub count_fields : PacketHeader → List Field
count_fields header =
    Number (tag_named "qd") header.questions ∷ Number (tag_named "an") header.answers ∷ Number (tag_named "ns") header.authorities
    ∷ Number (tag_named "ar") header.additional ∷ []

-- header_fields header used: of a packet that takes up so many bytes
abbrev pub header_fields : PacketHeader → ℕ → List Field
header_fields header used =
    word_field id_tag header.id ∷ word_field (tag_named "word") header.word
    ∷ (state_fields header.word ++ (count_fields header ++ used_fields used))

-- ---- questions and records

-- named_fields labels kind class: what questions and records have
abbrev pub named_fields : List (List ℕ) → ℕ → ℕ → List Field
named_fields labels kind class =
    Text name_tag (labels_written labels) ∷ word_field (tag_named "type") kind ∷ word_field (tag_named "class") class ∷ []

-- a question
abbrev pub question_fields : Question → List Field
question_fields question =
    Part (codes "  question") ∷ (named_fields question.name question.kind question.class ++ LineEnds ∷ PartEnds ∷ [])

-- RDATA: its bytes, or the name in a record of type NS
abbrev pub rdata_field : ResourceData → Field
rdata_field (of_bytes bytes) = Data (tag_named "data") bytes
rdata_field (of_domain labels) = Text (tag_named "domain") (labels_written labels)

-- head_fields labels kind class ttl: what a record has before its RDATA
abbrev pub head_fields : List (List ℕ) → ℕ → ℕ → ℕ → List Field
head_fields labels kind class ttl = named_fields labels kind class ++ Number (tag_named "ttl") ttl ∷ []

-- record_fields lead entry: a record, which begins so in text
abbrev pub record_fields : List ℕ → ResourceRecord → List Field
record_fields lead entry =
    Part lead ∷ (head_fields entry.name entry.kind entry.class entry.ttl
    ++ rdata_field entry.rdata ∷ LineEnds ∷ (fields_by entry.kind entry.rdata ++ PartEnds ∷ []))

-- ---- the packet

-- the lists of a packet's questions and of its records, a list for each section
abbrev pub lists_fields : ServicePacket → List Field
lists_fields packet =
    list_fields (codes "questions") (flat_map question_fields packet.questions)
    ++ (list_fields (codes "answers") (flat_map (record_fields (codes "  answer")) packet.answers)
    ++ (list_fields (codes "authorities") (flat_map (record_fields (codes "  authority")) packet.authorities)
    ++ list_fields (codes "additional") (flat_map (record_fields (codes "  additional")) packet.additional)))

-- service_fields packet used: the packet, which takes up so many bytes
abbrev pub service_fields : ServicePacket → ℕ → List Field
service_fields packet used = header_fields (header_of packet) used ++ lists_fields packet
