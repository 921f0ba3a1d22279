-- The text of a datagram service packet, port 138 (our choice), which is one line.
use Rattle.std.specs.Prelude.{ℕ, List, ◌++◌, codes}
use Rattle.std.specs.Fmt.{decimal}
use Rattle.nb_streams.specs.Hexadecimal.{data_text, digits_of}
use Rattle.nb_names.specs.NameText.{written}
use Rattle.nb_datagram.specs.declared.key.Key.{Key}
use Rattle.nb_datagram.specs.declared.packet.ErrorPacket.{ErrorPacket}
use Rattle.nb_datagram.specs.Packet.{Packet, QueryPacket}
use Rattle.nb_datagram.specs.declared.packet.Packet.TheVariants.{Direct, Error, Query}
use Rattle.nb_datagram.specs.Fragment.{FragmentParts}
use Rattle.nb_datagram.specs.FaultTexts.{key_text, kind_text}
use Rattle.nb_text.specs.Lines.{used_text}
use Rattle.nb_text.specs.Words.{query_word}

-- flags_text flags key: what each packet's header says
abbrev pub flags_text : ℕ → Key → List ℕ
flags_text flags key = codes " flags=" ++ (digits_of flags ++ (codes " key=" ++ key_text key))

-- a datagram, or a part of one
abbrev pub fragment_text : FragmentParts → List ℕ
fragment_text f =
    kind_text f.kind ++ (flags_text f.flags f.key ++ (codes " offset=" ++ (decimal f.offset
    ++ (codes " source=" ++ (written f.source ++ (codes " destination=" ++ (written f.destination
    ++ (codes " data=" ++ data_text f.bytes))))))))

-- an error packet
abbrev pub error_text : ErrorPacket → List ℕ
error_text e = codes "error" ++ (flags_text e.flags e.key ++ (codes " code=" ++ digits_of e.code))

-- a query packet
abbrev pub query_text : QueryPacket → List ℕ
query_text q =
    query_word q.kind ++ (flags_text q.flags q.key ++ (codes " destination=" ++ written q.destination))

-- what a packet is, and its parts
abbrev pub parts_text : Packet → List ℕ
parts_text (Direct f) = fragment_text f
parts_text (Error e) = error_text e
parts_text (Query q) = query_text q

-- datagram_text packet used: the packet, which takes up so many bytes
abbrev pub datagram_text : Packet → ℕ → List ℕ
datagram_text packet used = parts_text packet ++ used_text used
