-- What the calls that write packets of port 138 answer (RFC 1002 sections 4.4.2 to 4.4.4).
use Rattle.std.specs.Prelude.{◌==◌, ◌+◌, ◌%◌, ℕ, Bool, nat_lt, min, List, ◌++◌, length, Option, Some, None, Result, Ok, Err, if◌then◌else◌}
use Rattle.nb_calls.specs.Common.{w16, w32, to_be_bytes, flat_map, TextFault, NetbiosName, Key, Unique, Group, Broadcast, MAX_LENGTH, DIRECT_HEADER_LENGTH, Direct, Error, Query, DatagramParts, FragmentParts, name_bytes, packet_bytes, pieces, Sent, UNKNOWN_TYPE, LONG_DATA, ZERO_PIECE, SOURCE_TEXT, DESTINATION_TEXT, NO_ROLE}
use Rattle.nb_datagram.specs.declared.key.Kind.{Kind}
use Rattle.nb_calls.specs.Names.{IsRead}
use Rattle.nb_calls.specs.Outputs.{OrMemory}
use Rattle.nb_calls.specs.Statuses.{Refusal, Fault, text_refusal}
use Rattle.nb_datagram.specs.declared.packet.QueryKind.{QueryKind}
use Rattle.nb_datagram.specs.declared.packet.QueryKind.TheVariants.{Request, Positive, Negative}

-- the kind of datagram with this MSG_TYPE: hexadecimal 10, 11 and 12
abbrev pub kind_with : ℕ → Option Kind
kind_with type =
    if type == 16 then Some Unique else if type == 17 then Some Group else if type == 18 then Some Broadcast else None

-- the key with these numbers
abbrev pub key_from : ℕ → ℕ → ℕ → Key
key_from identifier address port = record { ip = to_be_bytes w32 address; port = port; id = identifier }

-- the datagram of this kind between two names, with this data, that is sent so
abbrev pub datagram_of : Sent → Kind → NetbiosName → NetbiosName → List ℕ → DatagramParts
datagram_of sent kind source destination bytes = record {
  key = key_from sent.identifier sent.address sent.port;
  kind = kind;
  source = source;
  destination = destination;
  bytes = bytes;
}

-- the bytes of a fragment's packet
abbrev pub packet_of : FragmentParts → List ℕ
packet_of piece = packet_bytes (Direct piece)

-- the bytes of a packet, after their number in two bytes, the higher one first
abbrev pub counted : List ℕ → List ℕ
counted packet = to_be_bytes w16 (length packet % 65536) ++ packet

-- are_long source destination size most: whether the longest packet of a datagram with so many bytes, cut into pieces of at
-- most so many, has more than 65,535 bytes: its header, both names and the data
abbrev pub are_long : NetbiosName → NetbiosName → ℕ → ℕ → Bool
are_long source destination size most =
    nat_lt MAX_LENGTH (DIRECT_HEADER_LENGTH + (length (name_bytes source) + length (name_bytes destination)) + min size most)

-- the packets of the datagram's pieces, in order, each after its length
abbrev pub packets_of : DatagramParts → ℕ → List ℕ
packets_of d most = flat_map (λ piece. counted (packet_of piece)) (pieces d most)

-- cut_answer datagram most: the packets of the datagram's pieces, or the first fault
abbrev pub cut_answer : DatagramParts → ℕ → Result (List ℕ) Refusal
cut_answer d most =
    if nat_lt MAX_LENGTH (length d.bytes) then Err (Fault LONG_DATA)
    else if most == 0 then Err (Fault ZERO_PIECE)
    else if are_long d.source d.destination (length d.bytes) most then Err (Fault LONG_DATA)
    else Ok (packets_of d most)

-- cut_kind kind sent source destination contents: what is answered where the type is of this kind, or of none, and where the
-- texts of the names are read so
abbrev pub cut_kind : Option Kind → Sent → Result NetbiosName TextFault → Result NetbiosName TextFault → List ℕ → Result (List ℕ) Refusal
cut_kind None sent source destination contents = Err (Fault UNKNOWN_TYPE)
cut_kind (Some kind) sent (Err fault) destination contents = Err (text_refusal SOURCE_TEXT fault)
cut_kind (Some kind) sent (Ok source) (Err fault) contents = Err (text_refusal DESTINATION_TEXT fault)
cut_kind (Some kind) sent (Ok source) (Ok destination) contents =
    cut_answer (datagram_of sent kind source destination contents) sent.most

-- the same, by the type's number
abbrev pub cut_names : Sent → Result NetbiosName TextFault → Result NetbiosName TextFault → List ℕ → Result (List ℕ) Refusal
cut_names sent = cut_kind (kind_with sent.packet_type) sent

-- Cuts sent source destination contents answer: this is answered where the names have these texts
abbrev pub Cuts : Sent → List ℕ → List ℕ → List ℕ → Result (List ℕ) Refusal → Type 0
Cuts sent source destination contents answer =
    (from to : Result NetbiosName TextFault) × IsRead source from × IsRead destination to
    × OrMemory (cut_names sent from to contents) answer

-- ---- packets without data
-- Their FLAGS are 02, the first fragment and no more of them (our choice).

-- the bytes of an error packet of this key, with this code
abbrev pub error_packet : Key → ℕ → List ℕ
error_packet key code = packet_bytes (Error (record { flags = 2; key = key; code = code }))

-- the kind of query with this MSG_TYPE: hexadecimal 14, 15 and 16
abbrev pub query_with : ℕ → Option QueryKind
query_with type =
    if type == 20 then Some Request else if type == 21 then Some Positive else if type == 22 then Some Negative else None

-- query_kind kind key read: what is answered where the type is of this kind, or of none, and where the name's text is read so
abbrev pub query_kind : Option QueryKind → Key → Result NetbiosName TextFault → Result (List ℕ) Refusal
query_kind None key read = Err (Fault UNKNOWN_TYPE)
query_kind (Some kind) key (Err fault) = Err (text_refusal NO_ROLE fault)
query_kind (Some kind) key (Ok name) =
    Ok (packet_bytes (Query (record { kind = kind; flags = 2; key = key; destination = name })))

-- the same, by the type's number
abbrev pub query_answer : ℕ → Key → Result NetbiosName TextFault → Result (List ℕ) Refusal
query_answer type = query_kind (query_with type)

-- Queries type key text answer: this is answered where the name has this text
abbrev pub Queries : ℕ → Key → List ℕ → Result (List ℕ) Refusal → Type 0
Queries type key text answer =
    (read : Result NetbiosName TextFault) × IsRead text read × OrMemory (query_answer type key read) answer
