-- The text of a session packet, port 139 (our choice), which is one line.
use Rattle.std.specs.Prelude.{ℕ, List, ◌++◌, length, codes}
use Rattle.std.specs.Fmt.{decimal}
use Rattle.nb_streams.specs.Addresses.{address_text}
use Rattle.nb_streams.specs.Hexadecimal.{data_text, digits_of}
use Rattle.nb_names.specs.NameText.{written}
use Rattle.nb_session.specs.Packet.{Packet}
use Rattle.nb_session.specs.declared.packet.Packet.TheVariants.{Message, Request, Positive, Negative, Retarget, Keepalive}
use Rattle.nb_session.specs.Parsing.{Parsed}
use Rattle.nb_session.specs.declared.parsing.Parsed.TheVariants.{Whole, More, Refused}
use Rattle.nb_session.specs.FaultTexts.{session_fault_text}
use Rattle.nb_text.specs.Lines.{line_end, used_text, refused_text}

-- what a packet is, and its parts
abbrev pub parts_text : Packet → List ℕ
parts_text (Message bytes) = codes "message length=" ++ (decimal (length bytes) ++ (codes " data=" ++ data_text bytes))
parts_text (Request called calling) =
    codes "request called=" ++ (written called ++ (codes " calling=" ++ written calling))
parts_text Positive = codes "positive"
parts_text (Negative code) = codes "negative code=" ++ digits_of code
parts_text (Retarget address port) =
    codes "retarget address=" ++ (address_text address ++ (codes " port=" ++ decimal port))
parts_text Keepalive = codes "keepalive"

-- what stands at the front of a payload: a packet, a front of one that lacks so many bytes, or neither
abbrev pub session_text : Parsed → List ℕ
session_text (Whole packet used) = parts_text packet ++ used_text used
session_text (More needed) = codes "more " ++ (decimal needed ++ line_end)
session_text (Refused fault) = refused_text (session_fault_text fault)
