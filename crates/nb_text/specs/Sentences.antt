-- Sentences in which the laws say what phrases are, and the packets that they are about.
use Rattle.std.specs.Prelude.{ℕ, ◌==◌, List, [], ◌∷◌, ◌++◌, length, codes, if◌then◌else◌}
use Rattle.std.specs.Fmt.{decimal}
use Rattle.std.specs.Int.{w16, to_be_bytes}
use Rattle.nb_streams.specs.Addresses.{address_text}
use Rattle.nb_names.specs.Name.{NetbiosName, labels_of_name}
use Rattle.nb_names.specs.NameText.{written}
use Rattle.nb_service.specs.Packet.{ServicePacket}
use Rattle.nb_service.specs.Record.{of_bytes, record_of}
use Rattle.nb_service.specs.Requests.{packet_of}
use Rattle.nb_datagram.specs.Fragment.{FragmentParts}
use Rattle.nb_text.specs.Said.{kind_words}
use Rattle.nb_text.specs.Words.{is_set}

-- the bytes of an address entry (4.2.13): flags, and an address
abbrev pub entry_for : ℕ → ℕ → ℕ → ℕ → ℕ → List ℕ
entry_for flags a b c d = to_be_bytes w16 flags ++ a ∷ b ∷ c ∷ d ∷ []

-- response id word name kind ttl bytes: a response (4.2.1) that is one record of class 1, with this name and these bytes
abbrev pub response : ℕ → ℕ → NetbiosName → ℕ → ℕ → List ℕ → ServicePacket
response id word name kind ttl bytes = packet_of id word [] (record_of (labels_of_name name) kind 1 ttl (of_bytes bytes) ∷ []) [] []

-- for whom a name is, where these are the flags
abbrev pub holder : ℕ → List ℕ
holder flags = if is_set flags 32768 then codes " as a group for " else codes " for "

-- for how long
abbrev pub lasting : ℕ → List ℕ
lasting ttl = codes ", for " ++ (decimal ttl ++ codes " s")

-- claimed name flags address ttl: a name, for whom it is, and for how long
abbrev pub claimed : NetbiosName → ℕ → List ℕ → ℕ → List ℕ
claimed name flags address ttl = written name ++ (holder flags ++ (address_text address ++ lasting ttl))

-- sent datagram behind: who sends what to whom, and what is said behind that
abbrev pub sent : FragmentParts → List ℕ → List ℕ
sent datagram behind =
    kind_words datagram.kind ++ (written datagram.source ++ (codes " to " ++ (written datagram.destination ++ (codes ", "
    ++ (decimal (length datagram.bytes) ++ ((if length datagram.bytes == 1 then codes " byte" else codes " bytes") ++ behind))))))
