-- Which packets words name (our choice). WHAT is the first word, ARG.. are those after it.
--
-- A number is written in decimal without leading zeros; the digits of an identifier, of flags, a type, a code and of data
-- may be in either case. FLAGS of the packets of port 138 that are no fragments are F alone, 02.
use Rattle.std.specs.Borrow.{Bor}
use Rattle.std.specs.Prelude.{◌≡◌, ◌<◌, ◌≤◌, ◌^◌, ◌++◌, ℕ, Bool, List, [], ◌∷◌, length, codes, map, ◌≢◌, true, false, bit_or}
use Rattle.std.specs.Fmt.{decimal}
use Rattle.std.specs.Int.{w16, to_be_bytes}
use Rattle.nb_streams.specs.Addresses.{address_text}
use Rattle.nb_streams.specs.Places.{AreBytes}
use Rattle.nb_streams.specs.Hexadecimal.{HexText, DataText}
use Rattle.nb_names.specs.Name.{NetbiosName, labels_of_name}
use Rattle.nb_names.specs.NameText.{IsText}
use Rattle.nb_service.specs.declared.views.AddressEntry.{AddressEntry}
use Rattle.nb_service.specs.Encoding as service
use Rattle.nb_service.specs.Packet.{ServicePacket}
use Rattle.nb_service.specs.Record.{ResourceData, of_bytes, of_domain, record_of}
use Rattle.nb_service.specs.Requests.{query_packet, status_packet, registration_packet, refresh_packet, release_packet, packet_of}
use Rattle.nb_service.specs.Views.{entry_bytes}
use Rattle.nb_session.specs.Packet as session
use Rattle.nb_session.specs.declared.packet.Packet.TheVariants.{Message, Request, Positive, Negative, Retarget, Keepalive}
use Rattle.nb_session.specs.Packet.{IsPacket}
use Rattle.nb_datagram.specs.declared.key.Key.{Key}
use Rattle.nb_datagram.specs.declared.limits.TheConstants.{FIRST}
use Rattle.nb_datagram.specs.declared.packet.Packet.TheVariants.{Direct, Error, Query}
use Rattle.nb_datagram.specs.declared.packet.QueryKind.{QueryKind}
use Rattle.nb_datagram.specs.Fragment.{DatagramParts}
use Rattle.nb_datagram.specs.Packet as datagram
use Rattle.nb_datagram.specs.Pieces.{AreTooLong, pieces}
use Rattle.nb_datagram.specs.FaultTexts.{kind_text}
use Rattle.nb_text.specs.Words.{query_word}
use Rattle.nb_names.specs.declared.reading.Pointers.TheVariants.{Refused}
use Rattle.nb_names.specs.Labels.{NameAt}
use Rattle.nb_service.specs.declared.classes.TheConstants.{IN}
use Rattle.nb_service.specs.declared.flags.TheConstants.NmFlags.{B}
use Rattle.nb_service.specs.declared.kinds.TheConstants.{NS}
use Rattle.nb_service.specs.Header.{nm_bits}

-- ---- the responses that words name: packets with one answer, and no question (RFC 1002 sections 4.2.5 to 4.2.18)
-- Of these sections all but 4.2.8 and 4.2.15 have such packets.

-- HasRdata kind bytes rdata: these bytes stand where the RDATA of a record of this type does, at most 65,535: of type NS
-- the spelling of a domain name
pub data HasRdata (kind : ℕ) (bytes : List ℕ) : ResourceData → Type 0 where
  plain : kind ≢ NS → length bytes ≤ 65535 → HasRdata kind bytes (of_bytes bytes)
  domain : (labels : List (List ℕ)) → kind ≡ NS → NameAt bytes Refused 0 labels (length bytes)
      → HasRdata kind bytes (of_domain labels)

-- with_flag word broadcast: the flag word, with B set where the packet is broadcast
abbrev pub with_flag : ℕ → Bool → ℕ
with_flag word true = bit_or word (nm_bits B)
with_flag word false = word

-- response_packet id word name kind ttl rdata: a packet with one answer, of class IN, and nothing else
abbrev pub response_packet : ℕ → ℕ → NetbiosName → ℕ → ℕ → ResourceData → ServicePacket
response_packet id word name kind ttl rdata =
    packet_of id word [] (record_of (labels_of_name name) kind IN ttl rdata ∷ []) [] []

-- ---- one word

-- the texts of words
abbrev pub texts : List (Bor (List ℕ)) → List (List ℕ)
texts words = map (λ w. w.now) words

-- NumberText most n text: the text is this number, which is at most so great
abbrev pub NumberText : ℕ → ℕ → List ℕ → Type 0
NumberText most n text = (n ≤ most) × (text ≡ decimal n)

-- WordText n text: four digits of a number of sixteen bits
abbrev pub WordText : ℕ → List ℕ → Type 0
WordText n text = (n < 2 ^ 16) × HexText (to_be_bytes w16 n) text

-- CodeText n text: two digits
abbrev pub CodeText : ℕ → List ℕ → Type 0
CodeText n text = HexText (n ∷ []) text

-- AddressText address text: four numbers to 255, with dots between them
abbrev pub AddressText : List ℕ → List ℕ → Type 0
AddressText address text = (length address ≡ 4) × AreBytes address × (text ≡ address_text address)

-- EntryTexts entry flags address: an address entry, of two words
abbrev pub EntryTexts : AddressEntry → List ℕ → List ℕ → Type 0
EntryTexts entry flags address = WordText entry.flags flags × AddressText entry.address address

-- KeyText key text: an address, `:`, a port, `/`, an identifier
pub record KeyText (key : Key) (text : List ℕ) : Type 0 where
  pub ip : List ℕ
  pub port : List ℕ
  pub id : List ℕ
  pub has_ip : AddressText key.ip ip
  pub has_port : NumberText 65535 key.port port
  pub has_id : WordText key.id id
  pub whole : text ≡ ip ++ (codes ":" ++ (port ++ (codes "/" ++ id)))

-- ---- packets of port 137

-- NamesService broadcast what words packet: these words name this packet; `broadcast` says whether B is set in it
pub data NamesService (broadcast : Bool) : List ℕ → List (List ℕ) → ServicePacket → Type 0 where
  query : (id : ℕ) (name : NetbiosName) (a b : List ℕ) → WordText id a → IsText name b
      → NamesService broadcast (codes "query") (a ∷ b ∷ []) (query_packet id name broadcast)
  status : (id : ℕ) (name : NetbiosName) (a b : List ℕ) → WordText id a → IsText name b
      → NamesService broadcast (codes "status") (a ∷ b ∷ []) (status_packet id name broadcast)
  registration : (id ttl : ℕ) (name : NetbiosName) (entry : AddressEntry) (a b c d e : List ℕ) → WordText id a → IsText name b
      → NumberText 4294967295 ttl c → EntryTexts entry d e
      → NamesService broadcast (codes "registration") (a ∷ b ∷ c ∷ d ∷ e ∷ [])
      (registration_packet id name broadcast ttl (entry_bytes entry))
  refresh : (id ttl : ℕ) (name : NetbiosName) (entry : AddressEntry) (a b c d e : List ℕ) → WordText id a → IsText name b
      → NumberText 4294967295 ttl c → EntryTexts entry d e
      → NamesService broadcast (codes "refresh") (a ∷ b ∷ c ∷ d ∷ e ∷ []) (refresh_packet id name broadcast ttl (entry_bytes entry))
  release : (id : ℕ) (name : NetbiosName) (entry : AddressEntry) (a b d e : List ℕ) → WordText id a → IsText name b
      → EntryTexts entry d e
      → NamesService broadcast (codes "release") (a ∷ b ∷ d ∷ e ∷ []) (release_packet id name broadcast (entry_bytes entry))
  response : (id word kind ttl : ℕ) (name : NetbiosName) (bytes : List ℕ) (rdata : ResourceData) (a b c d e f : List ℕ)
      → WordText id a → WordText word b → IsText name c → WordText kind d → NumberText 4294967295 ttl e → DataText bytes f
      → HasRdata kind bytes rdata
      → NamesService broadcast (codes "response") (a ∷ b ∷ c ∷ d ∷ e ∷ f ∷ [])
      (response_packet id (with_flag word broadcast) name kind ttl rdata)

-- IsServiceBuilt broadcast what words bytes: these words name a packet, which has these bytes
pub record IsServiceBuilt (broadcast : Bool) (what : List ℕ) (words : List (List ℕ)) (bytes : List ℕ) : Type 0 where
  pub packet : ServicePacket
  pub named : NamesService broadcast what words packet
  pub exact : bytes ≡ service.packet_bytes packet

-- ---- packets of port 139

-- NamesSession what words packet
pub data NamesSession : List ℕ → List (List ℕ) → session.Packet → Type 0 where
  request : (called calling : NetbiosName) (a b : List ℕ) → IsText called a → IsText calling b
      → NamesSession (codes "request") (a ∷ b ∷ []) (Request called calling)
  message : (bytes a : List ℕ) → DataText bytes a → NamesSession (codes "message") (a ∷ []) (Message bytes)
  positive : NamesSession (codes "positive") [] Positive
  negative : (code : ℕ) (a : List ℕ) → CodeText code a → NamesSession (codes "negative") (a ∷ []) (Negative code)
  retarget : (port : ℕ) (address a b : List ℕ) → AddressText address a → NumberText 65535 port b
      → NamesSession (codes "retarget") (a ∷ b ∷ []) (Retarget address port)
  keepalive : NamesSession (codes "keepalive") [] Keepalive

-- IsSessionBuilt what words bytes: these words name a packet, which has these bytes
pub record IsSessionBuilt (what : List ℕ) (words : List (List ℕ)) (bytes : List ℕ) : Type 0 where
  pub packet : session.Packet
  pub named : NamesSession what words packet
  pub exact : IsPacket packet bytes

-- ---- packets of port 138

-- NamesDatagrams what words payloads: these words name packets, whose bytes these are, in order; a datagram has at most
-- 65,535 bytes of data, and so has each fragment, with its names
pub data NamesDatagrams : List ℕ → List (List ℕ) → List (List ℕ) → Type 0 where
  fragments : (d : DatagramParts) (most : ℕ) (a b c e f : List ℕ) → KeyText d.key a → IsText d.source b → IsText d.destination c
      → DataText d.bytes e → NumberText 65535 most f → 1 ≤ most → length d.bytes ≤ 65535 → ¬ AreTooLong d most
      → NamesDatagrams (kind_text d.kind) (a ∷ b ∷ c ∷ e ∷ f ∷ []) (map (λ p. datagram.packet_bytes (Direct p)) (pieces d most))
  error : (key : Key) (code : ℕ) (a b : List ℕ) → KeyText key a → CodeText code b
      → NamesDatagrams (codes "error") (a ∷ b ∷ []) (datagram.packet_bytes (Error (record { flags = FIRST; key = key; code = code })) ∷ [])
  queries : (kind : QueryKind) (key : Key) (name : NetbiosName) (a b : List ℕ) → KeyText key a → IsText name b
      → NamesDatagrams (query_word kind) (a ∷ b ∷ [])
      (datagram.packet_bytes (Query (record { kind = kind; flags = FIRST; key = key; destination = name })) ∷ [])

-- ---- all

-- Names broadcast what words port payloads: these words name packets of this port, whose bytes these are, in order
pub data Names (broadcast : Bool) (what : List ℕ) (words : List (List ℕ)) : ℕ → List (List ℕ) → Type 0 where
  of_service : (bytes : List ℕ) → IsServiceBuilt broadcast what words bytes → Names broadcast what words 137 (bytes ∷ [])
  of_session : (bytes : List ℕ) → IsSessionBuilt what words bytes → Names broadcast what words 139 (bytes ∷ [])
  of_datagrams : (payloads : List (List ℕ)) → NamesDatagrams what words payloads → Names broadcast what words 138 payloads

-- the same of the port and these bytes
abbrev pub NamesAny : Bool → List ℕ → List (List ℕ) → ℕ × List (List ℕ) → Type 0
NamesAny broadcast what words packets = Names broadcast what words packets.0 packets.1
