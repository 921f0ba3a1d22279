-- The fields of a payload are members of an object, and their text is the payload's text. A form that is a line has a line
-- here, whatever its fields are.
use Rattle.std.proofs.Common.{ℕ, List, [], ◌∷◌, ◌++◌, drop, codes, Option, Some, None, sym, subst}
use Rattle.std.specs.List.{flat_map}
use Rattle.nb_names.specs.Name.{NetbiosName}
use Rattle.nb_service.specs.declared.record.Question.{Question}
use Rattle.nb_service.specs.Header.{opcode_of, rcode_of, PacketHeader}
use Rattle.nb_service.specs.Packet.{ServicePacket, header_of}
use Rattle.nb_service.specs.Record.{ResourceData, of_bytes, of_domain, ResourceRecord, record_of}
use Rattle.nb_datagram.specs.declared.front.FragmentFront.{FragmentFront}
use Rattle.nb_datagram.specs.FaultTexts.{key_text}
use Rattle.nb_datagram.specs.Packet.{Packet}
use Rattle.nb_datagram.specs.declared.packet.Packet.TheVariants.{Direct, Error, Query}
use Rattle.nb_session.specs.Header.{body_length}
use Rattle.nb_session.specs.Packet.{Packet as SessionPacket}
use Rattle.nb_session.specs.declared.packet.Packet.TheVariants.{Message, Request, Positive, Negative, Retarget, Keepalive}
use Rattle.nb_session.specs.Parsing.{Parsed}
use Rattle.nb_session.specs.declared.parsing.Parsed.TheVariants.{Whole, More, Refused}
use Rattle.nb_session.specs.FaultTexts.{session_fault_place, session_fault_text}
use Rattle.nb_telling.specs.Members.{AreMembers, nothing, both}
use Rattle.nb_telling.specs.Telling.{Field, FieldTag, Text, Number, Digits, Set, LineEnds}
use Rattle.nb_text.specs.DatagramFields as datagrams
use Rattle.nb_text.specs.DatagramText as datagram_texts
use Rattle.nb_text.specs.Fields.{used_fields, refused_fields, list_fields, word_field}
use Rattle.nb_text.specs.FrontFields.{indent, names_header_fields, type_field, standing_name, fragment_front_fields}
use Rattle.nb_text.specs.Tags.{tag_named, id_tag}
use Rattle.nb_text.specs.Lines.{used_text, refused_text}
use Rattle.nb_text.specs.ServiceFields as services
use Rattle.nb_text.specs.ServiceText as service_texts
use Rattle.nb_text.specs.SessionFields as sessions
use Rattle.nb_text.specs.SessionText as session_texts
use Rattle.nb_text.specs.Made as tells
use Rattle.nb_text.specs.Tells.{Tells}
use Rattle.nb_text.specs.TellsFront as fronts
use Rattle.nb_text.specs.TellsFront.{FrontOf, TellsFront}
use Rattle.nb_text.specs.Words.{datagram_word, named_text, names_set, operation_word, packet_flags, rcode_word, session_word}
use Rattle.nb_text.proofs.SaysLemmas.{Says, SaysParts, singles, row, both_say, part_says, line_says, up_to_end, then_lines, list_says}
use Rattle.nb_text.proofs.ViewLemmas.{view_says}

-- ---- lines

used_says : {depth : ℕ} (used : ℕ) → Says depth (used_fields used) (used_text used)
used_says used = row (used_fields used) _

pub refused_says : {depth : ℕ} (fault : List ℕ) (place : Option ℕ) → Says depth (refused_fields fault place) (refused_text fault)
refused_says fault None = row (refused_fields fault None) _
refused_says fault (Some place) = row (refused_fields fault (Some place)) _

-- ---- ports 139 and 138

session_parts : {depth : ℕ} (packet : SessionPacket) → Says depth (sessions.parts_fields packet) (session_texts.parts_text packet)
session_parts (Message bytes) = row (sessions.parts_fields (Message bytes)) _
session_parts (Request called calling) = row (sessions.parts_fields (Request called calling)) _
session_parts Positive = row (sessions.parts_fields Positive) _
session_parts (Negative code) = row (sessions.parts_fields (Negative code)) _
session_parts (Retarget address port) = row (sessions.parts_fields (Retarget address port)) _
session_parts Keepalive = row (sessions.parts_fields Keepalive) _

pub session_says : {depth : ℕ} (parsed : Parsed) → Says depth (sessions.session_fields parsed) (session_texts.session_text parsed)
session_says (Whole packet used) = both_say (session_parts packet) (used_says used)
session_says (More needed) = row (sessions.session_fields (More needed)) _
session_says (Refused fault) = refused_says (session_fault_text fault) (session_fault_place fault)

datagram_parts : {depth : ℕ} (packet : Packet) → Says depth (datagrams.parts_fields packet) (datagram_texts.parts_text packet)
datagram_parts (Direct f) = row (datagrams.parts_fields (Direct f)) _
datagram_parts (Error e) = row (datagrams.parts_fields (Error e)) _
datagram_parts (Query q) = row (datagrams.parts_fields (Query q)) _

pub datagram_says : {depth : ℕ} (packet : Packet) (used : ℕ) → Says depth (datagrams.datagram_fields packet used) (datagram_texts.datagram_text packet used)
datagram_says packet used = both_say (datagram_parts packet) (used_says used)

-- ---- port 137

named_says : {depth : ℕ} (key : FieldTag) (word : Option (List ℕ)) (n : ℕ) → Says depth (services.named_field key word n ∷ []) (key.lead ++ named_text word n)
named_says key None n = row (services.named_field key None n ∷ []) _
named_says key (Some word) n = row (services.named_field key (Some word) n ∷ []) _

state_says : {depth : ℕ} (word : ℕ) → Says depth (services.state_fields word) (service_texts.state_text word)
state_says word =
    both_say (named_says (tag_named "op") (operation_word (opcode_of word)) (opcode_of word))
    (both_say (row (Set (tag_named "flags") (names_set packet_flags word) ∷ []) _)
    (named_says (tag_named "rcode") (rcode_word (rcode_of word)) (rcode_of word)))

header_says : {depth : ℕ} (header : PacketHeader) (used : ℕ) → Says depth (services.header_fields header used) (service_texts.header_line header used)
header_says header used =
    both_say (row (word_field id_tag header.id ∷ word_field (tag_named "word") header.word ∷ []) _)
    (both_say (state_says header.word) (both_say (row (services.count_fields header) _) (used_says used)))

question_says : {depth : ℕ} (question : Question) → SaysParts depth (services.question_fields question) (service_texts.question_line question)
question_says question = line_says (codes "  question") (services.question_fields question) _

record_says : (section : List ℕ) (entry : ResourceRecord)
    → SaysParts 1 (services.record_fields (codes "  " ++ section) entry) (service_texts.record_lines section entry)
record_says section entry = either entry.rdata where
  with_data : ResourceData → ResourceRecord
  with_data rdata = record_of entry.name entry.kind entry.class entry.ttl rdata

  -- the record's own line, after its section's name
  own : ResourceData → List Field
  own rdata = up_to_end (drop 1 (services.record_fields [] (with_data rdata)))

  line : ResourceData → List ℕ
  line rdata = drop 2 (service_texts.record_line [] (with_data rdata))

  either : (rdata : ResourceData)
      → SaysParts 1 (services.record_fields (codes "  " ++ section) (with_data rdata)) (service_texts.record_lines section (with_data rdata))
  either (of_bytes bytes) =
      then_lines section (line (of_bytes bytes)) _
      (part_says (codes "  " ++ section) (both_say (row (own (of_bytes bytes)) _) (view_says entry.kind (of_bytes bytes))))
  either (of_domain labels) =
      then_lines section (line (of_domain labels)) _
      (part_says (codes "  " ++ section) (both_say (row (own (of_domain labels)) _) (view_says entry.kind (of_domain labels))))

section_says : (name section : List ℕ) (entries : List ResourceRecord)
    → Says 2 (list_fields name (flat_map (services.record_fields (codes "  " ++ section)) entries)) (flat_map (service_texts.record_lines section) entries)
section_says name section entries =
    list_says name (services.record_fields (codes "  " ++ section)) (service_texts.record_lines section) entries (record_says section)

-- the text of a packet's lists
abbrev pub lists_text : ServicePacket → List ℕ
lists_text packet =
    flat_map service_texts.question_line packet.questions
    ++ (flat_map (service_texts.record_lines (codes "answer")) packet.answers
    ++ (flat_map (service_texts.record_lines (codes "authority")) packet.authorities
    ++ flat_map (service_texts.record_lines (codes "additional")) packet.additional))

lists_say : (packet : ServicePacket) → Says 2 (services.lists_fields packet) (lists_text packet)
lists_say packet =
    both_say (list_says (codes "questions") services.question_fields service_texts.question_line packet.questions question_says)
    (both_say (section_says (codes "answers") (codes "answer") packet.answers)
    (both_say (section_says (codes "authorities") (codes "authority") packet.authorities)
    (section_says (codes "additional") (codes "additional") packet.additional)))

pub service_says : (packet : ServicePacket) (used : ℕ) → Says 2 (services.service_fields packet used) (service_texts.service_text packet used)
service_says packet used = both_say (header_says (header_of packet) used) (lists_say packet)

-- ---- the members

pub fields_members : (payload : List ℕ) (port : ℕ) (fields : List Field) → Tells payload port fields → AreMembers 2 fields
fields_members payload _ _ (tells.names packet used h) = (service_says packet used).members
fields_members payload _ _ (tells.no_names fault h) = (refused_says _ _).members
fields_members payload _ _ (tells.datagram packet used h) = (datagram_says packet used).members
fields_members payload _ _ (tells.no_datagram fault h) = (refused_says _ _).members
fields_members payload _ _ (tells.session port parsed a b h) = (session_says parsed).members

-- ---- fronts

front_header : {depth : ℕ} (header : PacketHeader) → AreMembers depth (names_header_fields header)
front_header header =
    both _ _ (singles (indent ∷ word_field id_tag header.id ∷ word_field (tag_named "word") header.word ∷ []) _)
    (both _ _ (state_says header.word).members (singles (services.count_fields header ++ LineEnds ∷ []) _))

type_member : {depth : ℕ} (word : Option (List ℕ)) (type : ℕ) → AreMembers depth (type_field word type ∷ [])
type_member None type = singles (type_field None type ∷ []) _
type_member (Some word) type = singles (type_field (Some word) type ∷ []) _

name_members : {depth : ℕ} (key : FieldTag) (name : Option NetbiosName) → AreMembers depth (standing_name key name)
name_members key None = nothing
name_members key (Some name) = singles (standing_name key (Some name)) _

fragment_members : {depth : ℕ} (fragment : Option FragmentFront) → AreMembers depth (fragment_front_fields fragment)
fragment_members None = nothing
fragment_members (Some front) =
    both _ _ (singles (Number (tag_named "offset") front.offset ∷ []) _)
    (both _ _ (name_members (tag_named "source") front.source) (name_members (tag_named "destination") front.destination))

front_members : (payload : List ℕ) (port : ℕ) (fields : List Field) → FrontOf payload port fields → AreMembers 2 fields
front_members payload _ _ (fronts.names_front fault header items next fails h) = both _ _ (front_header header) (lists_say items).members
front_members payload _ _ (fronts.datagram_front fault front fails h) =
    both _ _ (singles (indent ∷ []) _) (both _ _ (type_member (datagram_word front.message_type) front.message_type)
    (both _ _ (singles (Digits (tag_named "flags") (front.flags ∷ []) ∷ Text (tag_named "key") (key_text front.key) ∷ []) _)
    (both _ _ (fragment_members front.fragment) (singles (LineEnds ∷ []) _))))
front_members payload _ _ (fronts.session_front port parsed header a b h none there) =
    both _ _ (singles (indent ∷ []) _) (both _ _ (type_member (session_word header.packet_type) header.packet_type)
    (singles (Number (tag_named "length") (body_length header) ∷ LineEnds ∷ []) _))
front_members payload _ _ stands = nothing

pub told_members : (payload : List ℕ) (port : ℕ) (fields : List Field) → TellsFront payload port fields → AreMembers 2 fields
told_members payload port fields h =
    subst (AreMembers 2) (sym h.are)
    (both h.told h.more (fields_members payload port h.told h.tells) (front_members payload port h.more h.stands))
