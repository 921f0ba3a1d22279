-- The text of a name service packet, port 137 (our choice): a line for the header, then a line for each question and
-- record, which two spaces begin, and after a record a line for each part of its RDATA, which four begin.
use Rattle.std.specs.Prelude.{ℕ, List, ◌++◌, codes}
use Rattle.std.specs.Fmt.{decimal}
use Rattle.std.specs.List.{flat_map}
use Rattle.nb_streams.specs.Hexadecimal.{data_text, word_text}
use Rattle.nb_names.specs.NameText.{labels_written}
use Rattle.nb_service.specs.declared.record.Question.{Question}
use Rattle.nb_service.specs.Header.{opcode_of, rcode_of, PacketHeader}
use Rattle.nb_service.specs.Packet.{ServicePacket, header_of}
use Rattle.nb_service.specs.Record.{ResourceData, of_bytes, of_domain, ResourceRecord}
use Rattle.nb_text.specs.Lines.{line_end, used_text}
use Rattle.nb_text.specs.Views.{lines_by}
use Rattle.nb_text.specs.Words.{operation_word, rcode_word, named_text, packet_flags, set_text}

-- ---- the header

-- the identifier and the flag word
abbrev pub identity_text : PacketHeader → List ℕ
identity_text header = codes "id=" ++ (word_text header.id ++ (codes " word=" ++ word_text header.word))

-- what the flag word says
abbrev pub state_text : ℕ → List ℕ
state_text word =
    codes " op=" ++ (named_text (operation_word (opcode_of word)) (opcode_of word)
    ++ (codes " flags=" ++ (set_text packet_flags word
    ++ (codes " rcode=" ++ named_text (rcode_word (rcode_of word)) (rcode_of word)))))

-- how many questions, answers, authorities and additional records there are
abbrev pub counts_text : PacketHeader → List ℕ
counts_text header =
    codes " qd=" ++ (decimal header.questions ++ (codes " an=" ++ (decimal header.answers
    ++ (codes " ns=" ++ (decimal header.authorities ++ (codes " ar=" ++ decimal header.additional))))))

-- header_line header used: of a packet that takes up so many bytes
abbrev pub header_line : PacketHeader → ℕ → List ℕ
header_line header used =
    identity_text header ++ (state_text header.word ++ (counts_text header ++ used_text used))

-- ---- questions and records

-- type_text kind class: of a question or a record
abbrev pub type_text : ℕ → ℕ → List ℕ
type_text kind class = codes " type=" ++ (word_text kind ++ (codes " class=" ++ word_text class))

-- a question
abbrev pub question_line : Question → List ℕ
question_line question =
    codes "  question " ++ (labels_written question.name ++ (type_text question.kind question.class ++ line_end))

-- RDATA: its bytes, or the name in a record of type NS
abbrev pub rdata_text : ResourceData → List ℕ
rdata_text (of_bytes bytes) = codes " data=" ++ data_text bytes
rdata_text (of_domain labels) = codes " domain=" ++ labels_written labels

-- record_line section entry: a record of the section with this name
abbrev pub record_line : List ℕ → ResourceRecord → List ℕ
record_line section entry =
    codes "  " ++ (section ++ (codes " " ++ (labels_written entry.name ++ (type_text entry.kind entry.class
    ++ (codes " ttl=" ++ (decimal entry.ttl ++ (rdata_text entry.rdata ++ line_end)))))))

-- record_lines section entry: the record, and the parts of its RDATA
abbrev pub record_lines : List ℕ → ResourceRecord → List ℕ
record_lines section entry =
    record_line section entry ++ lines_by entry.kind entry.rdata

-- ---- the packet

-- service_text packet used: the packet, which takes up so many bytes
abbrev pub service_text : ServicePacket → ℕ → List ℕ
service_text packet used =
    header_line (header_of packet) used
    ++ (flat_map question_line packet.questions
    ++ (flat_map (record_lines (codes "answer")) packet.answers
    ++ (flat_map (record_lines (codes "authority")) packet.authorities
    ++ flat_map (record_lines (codes "additional")) packet.additional)))
