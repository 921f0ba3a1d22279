-- Session packets as values, and the bytes that each is (RFC 1002 sections 4.3.1 to 4.3.7).
--
-- Names are spelled plainly: a name that is cut short by a label pointer is none here.
use Rattle.std.specs.Prelude.{◌≡◌, ℕ, ◌<◌, ◌≤◌, ◌^◌, List, [], ◌∷◌, ◌++◌, length, ⊤}
use Rattle.std.specs.Int.{w16, to_be_bytes}
use Rattle.nb_names.specs.DomainName.{spelling}
use Rattle.nb_names.specs.Name.{NetbiosName, IsName, labels_of_name}
use Rattle.nb_session.specs.declared.packet.Kind.{Kind}
use Rattle.nb_session.specs.declared.packet.Kind.TheVariants.{Message as message, Request as request, Positive as positive, Negative as negative, Retarget as retarget, Keepalive as keepalive}
use Rattle.nb_session.specs.declared.limits.TheConstants.{MAX_MESSAGE}
use Rattle.nb_session.specs.declared.packet.Packet.{Packet as PacketOf}
use Rattle.nb_session.specs.declared.packet.Packet.TheVariants.{Message, Request, Positive, Negative, Retarget, Keepalive}
use Rattle.nb_session.specs.Header.{header_bytes}

-- a packet, whatever the form of its names
abbrev pub Packet : Type 0
Packet = PacketOf NetbiosName

-- what a packet is for
abbrev pub kind_of : {N : Type 0} → PacketOf N → Kind
kind_of (Message contents) = message
kind_of (Request called calling) = request
kind_of Positive = positive
kind_of (Negative code) = negative
kind_of (Retarget address port) = retarget
kind_of Keepalive = keepalive

-- the body of a packet: the message's bytes; the called name, then the calling one; nothing; the code;
-- the address, then the port; nothing
abbrev pub body_of : Packet → List ℕ
body_of (Message contents) = contents
body_of (Request called calling) = spelling (labels_of_name called) ++ spelling (labels_of_name calling)
body_of Positive = []
body_of (Negative code) = code ∷ []
body_of (Retarget address port) = address ++ to_be_bytes w16 port
body_of Keepalive = []

-- the parts of a packet are such as fit it: a message of at most 131,071 bytes, names, an address of
-- four bytes and a port of sixteen bits
abbrev pub IsFormed : Packet → Type 0
IsFormed (Message contents) = length contents ≤ MAX_MESSAGE
IsFormed (Request called calling) = IsName called × IsName calling
IsFormed Positive = ⊤
IsFormed (Negative code) = ⊤
IsFormed (Retarget address port) = (length address ≡ 4) × (port < 2 ^ 16)
IsFormed Keepalive = ⊤

-- IsPacket packet bytes: these bytes are this packet, header and body, and nothing more
pub record IsPacket (packet : Packet) (bytes : List ℕ) : Type 0 where
  pub formed : IsFormed packet
  pub exact : bytes ≡ header_bytes (kind_of packet) (length (body_of packet)) ++ body_of packet

-- IsWhole bytes: these bytes are a packet
abbrev pub IsWhole : List ℕ → Type 0
IsWhole bytes = (packet : Packet) × IsPacket packet bytes
