-- The fields of a session packet, port 139 (our choice).
use Rattle.std.specs.Prelude.{List, [], ◌∷◌, ◌++◌, length}
use Rattle.nb_streams.specs.Addresses.{address_text}
use Rattle.nb_names.specs.NameText.{written}
use Rattle.nb_session.specs.Packet.{Packet}
use Rattle.nb_session.specs.declared.packet.Packet.TheVariants.{Message, Request, Positive, Negative, Retarget, Keepalive}
use Rattle.nb_session.specs.declared.packet.Kind.TheVariants as kinds
use Rattle.nb_session.specs.Parsing.{Parsed}
use Rattle.nb_session.specs.declared.parsing.Parsed.TheVariants.{Whole, More, Refused}
use Rattle.nb_session.specs.FaultTexts.{session_fault_place, session_fault_text}
use Rattle.nb_telling.specs.Telling.{Field, Text, Number, Digits, Data, LineEnds}
use Rattle.nb_text.specs.Tags.{tag_named, kind_tag, to_port_tag, more_tag}
use Rattle.nb_text.specs.Fields.{used_fields, refused_fields}
use Rattle.nb_text.specs.Words.{session_kind_word}

-- what a packet is, and its parts
abbrev pub parts_fields : Packet → List Field
parts_fields (Message bytes) =
    Text kind_tag (session_kind_word kinds.Message) ∷ Number (tag_named "length") (length bytes) ∷ Data (tag_named "data") bytes ∷ []
parts_fields (Request called calling) =
    Text kind_tag (session_kind_word kinds.Request) ∷ Text (tag_named "called") (written called) ∷ Text (tag_named "calling") (written calling) ∷ []
parts_fields Positive = Text kind_tag (session_kind_word kinds.Positive) ∷ []
parts_fields (Negative code) = Text kind_tag (session_kind_word kinds.Negative) ∷ Digits (tag_named "code") (code ∷ []) ∷ []
parts_fields (Retarget address port) =
    Text kind_tag (session_kind_word kinds.Retarget) ∷ Text (tag_named "address") (address_text address) ∷ Number to_port_tag port ∷ []
parts_fields Keepalive = Text kind_tag (session_kind_word kinds.Keepalive) ∷ []

-- what stands at the front of a payload: a packet, a front of one that lacks so many bytes, or neither
abbrev pub session_fields : Parsed → List Field
session_fields (Whole packet used) = parts_fields packet ++ used_fields used
session_fields (More needed) = Number more_tag needed ∷ LineEnds ∷ []
session_fields (Refused fault) = refused_fields (session_fault_text fault) (session_fault_place fault)
