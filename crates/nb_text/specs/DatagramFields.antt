-- The fields of a datagram service packet, port 138 (our choice).
use Rattle.std.specs.Prelude.{ℕ, List, [], ◌∷◌, ◌++◌, codes}
use Rattle.nb_names.specs.NameText.{written}
use Rattle.nb_datagram.specs.declared.key.Key.{Key}
use Rattle.nb_datagram.specs.declared.packet.ErrorPacket.{ErrorPacket}
use Rattle.nb_datagram.specs.Packet.{Packet, QueryPacket}
use Rattle.nb_datagram.specs.declared.packet.Packet.TheVariants.{Direct, Error, Query}
use Rattle.nb_datagram.specs.Fragment.{FragmentParts}
use Rattle.nb_datagram.specs.FaultTexts.{key_text, kind_text}
use Rattle.nb_telling.specs.Telling.{Field, Text, Number, Digits, Data}
use Rattle.nb_text.specs.Tags.{tag_named, kind_tag}
use Rattle.nb_text.specs.Fields.{used_fields}
use Rattle.nb_text.specs.Words.{query_word}

-- begin_fields kind flags key: what a packet is, and what each packet's header says
abbrev pub begin_fields : List ℕ → ℕ → Key → List Field
begin_fields kind flags key =
    Text kind_tag kind ∷ Digits (tag_named "flags") (flags ∷ []) ∷ Text (tag_named "key") (key_text key) ∷ []

-- a datagram, or a part of one
abbrev pub fragment_fields : FragmentParts → List Field
fragment_fields f =
    begin_fields (kind_text f.kind) f.flags f.key
    ++ Number (tag_named "offset") f.offset ∷ Text (tag_named "source") (written f.source)
    ∷ Text (tag_named "destination") (written f.destination) ∷ Data (tag_named "data") f.bytes ∷ []

-- an error packet
abbrev pub error_fields : ErrorPacket → List Field
error_fields e = begin_fields (codes "error") e.flags e.key ++ Digits (tag_named "code") (e.code ∷ []) ∷ []

-- a query packet
abbrev pub query_fields : QueryPacket → List Field
query_fields q =
    begin_fields (query_word q.kind) q.flags q.key ++ Text (tag_named "destination") (written q.destination) ∷ []

-- what a packet is, and its parts
abbrev pub parts_fields : Packet → List Field
parts_fields (Direct f) = fragment_fields f
parts_fields (Error e) = error_fields e
parts_fields (Query q) = query_fields q

-- datagram_fields packet used: the packet, which takes up so many bytes
abbrev pub datagram_fields : Packet → ℕ → List Field
datagram_fields packet used = parts_fields packet ++ used_fields used
