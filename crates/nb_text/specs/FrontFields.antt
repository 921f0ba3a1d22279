-- The fields of what still stands at the front of a payload that begins with no packet (our choice): a line of its header,
-- which has the members of a packet's line but for `used`, and of port 137 a line for each item. In text two spaces begin each
-- of these lines, as they begin those of a packet's items.
use Rattle.std.specs.Prelude.{ℕ, List, [], ◌∷◌, ◌++◌, codes, Option, Some, None}
use Rattle.nb_names.specs.Name.{NetbiosName}
use Rattle.nb_names.specs.NameText.{written}
use Rattle.nb_datagram.specs.declared.front.FragmentFront.{FragmentFront}
use Rattle.nb_datagram.specs.declared.front.Front.{Front}
use Rattle.nb_datagram.specs.FaultTexts.{key_text}
use Rattle.nb_service.specs.Header.{PacketHeader}
use Rattle.nb_service.specs.Packet.{ServicePacket}
use Rattle.nb_session.specs.declared.parsing.Header.{Header}
use Rattle.nb_session.specs.Header.{body_length}
use Rattle.nb_telling.specs.Telling.{Field, FieldTag, Text, Number, Digits, Words, LineEnds}
use Rattle.nb_text.specs.Tags.{tag_named, kind_tag, id_tag, packet_type_tag}
use Rattle.nb_text.specs.Fields.{word_field}
use Rattle.nb_text.specs.ServiceFields.{state_fields, count_fields, lists_fields}
use Rattle.nb_text.specs.Words.{datagram_word, session_word}

-- what begins a line of the front
abbrev pub indent : Field
indent = Words (codes "  ")

-- ---- port 137

-- the header of a name service packet
abbrev pub names_header_fields : PacketHeader → List Field
names_header_fields header =
    indent ∷ word_field id_tag header.id ∷ word_field (tag_named "word") header.word
    ∷ (state_fields header.word ++ (count_fields header ++ LineEnds ∷ []))

-- names_front_fields header part: the header, and the questions and records of `part`, which stand whole
abbrev pub names_front_fields : PacketHeader → ServicePacket → List Field
names_front_fields header part = names_header_fields header ++ lists_fields part

-- ---- ports 138 and 139

-- what a packet is, by its word where its type has one, else by its type
abbrev pub type_field : Option (List ℕ) → ℕ → Field
type_field (Some word) type = Text kind_tag word
type_field None type = Digits packet_type_tag (type ∷ [])

-- a name, where it stands whole
abbrev pub standing_name : FieldTag → Option NetbiosName → List Field
standing_name key None = []
standing_name key (Some name) = Text key (written name) ∷ []

-- what a fragment has after the ten bytes with which all packets of port 138 begin
abbrev pub fragment_front_fields : Option FragmentFront → List Field
fragment_front_fields None = []
fragment_front_fields (Some front) =
    Number (tag_named "offset") front.offset
    ∷ (standing_name (tag_named "source") front.source ++ standing_name (tag_named "destination") front.destination)

-- the header of a datagram service packet, and the names that stand whole
abbrev pub datagram_front_fields : Front → List Field
datagram_front_fields front =
    indent ∷ type_field (datagram_word front.message_type) front.message_type ∷ Digits (tag_named "flags") (front.flags ∷ [])
    ∷ Text (tag_named "key") (key_text front.key) ∷ (fragment_front_fields front.fragment ++ LineEnds ∷ [])

-- the header of a session packet
abbrev pub session_front_fields : Header → List Field
session_front_fields header =
    indent ∷ type_field (session_word header.packet_type) header.packet_type ∷ Number (tag_named "length") (body_length header)
    ∷ LineEnds ∷ []
