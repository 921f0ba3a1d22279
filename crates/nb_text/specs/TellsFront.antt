-- What the front of a payload says: the fields of the packet that it begins with; or why it begins with none, and then the
-- fields of what still stands there (our choice).
use Rattle.std.specs.Prelude.{◌≡◌, ◌≢◌, ℕ, ◌<◌, Bool, true, false, List, [], ◌++◌, length, None, fold}
use Rattle.nb_service.specs.declared.fault.ServiceFault.{ServiceFault}
use Rattle.nb_service.specs.declared.limits.TheConstants.{HEADER_LENGTH}
use Rattle.nb_service.specs.Header.{PacketHeader}
use Rattle.nb_service.specs.Items.{HasItems, items_of}
use Rattle.nb_service.specs.Packet as service
use Rattle.nb_service.specs.ServiceFaults as service_faults
use Rattle.nb_datagram.specs.declared.fault.DatagramFault.{DatagramFault}
use Rattle.nb_datagram.specs.declared.front.Front.{Front}
use Rattle.nb_datagram.specs.DatagramFaults as datagram_faults
use Rattle.nb_datagram.specs.Fronts.{HasFront, LacksHeader}
use Rattle.nb_datagram.specs.Packet as datagrams
use Rattle.nb_session.specs.declared.parsing.Header.{Header}
use Rattle.nb_session.specs.Packet.{Packet as SessionPacket}
use Rattle.nb_session.specs.declared.parsing.Parsed.TheVariants.{Whole}
use Rattle.nb_session.specs.Header.{HasHeader}
use Rattle.nb_session.specs.Parsing.{Parsed, Parses, taken_by}
use Rattle.nb_telling.specs.Telling.{Field}
use Rattle.nb_telling.specs.Texts.{text_of}
use Rattle.nb_text.specs.FrontFields.{names_front_fields, datagram_front_fields, session_front_fields}
use Rattle.nb_text.specs.Tells.{Tells, IsTold}

-- FrontOf payload port fields: these are the fields of what still stands at the front of a payload that came to the port; there
-- are none where it begins with a packet, or its header isn't whole. The front of a session packet that lacks bytes says what it
-- has, too. A port that is neither 137 nor 138 is taken for port 139
pub data FrontOf (payload : List ℕ) : ℕ → List Field → Type 0 where
  names : (packet : service.ServicePacket) (used : ℕ) → service.IsPacket payload packet used → FrontOf payload 137 []
  no_names_header : (fault : ServiceFault) → service_faults.PacketFails payload fault → length payload < HEADER_LENGTH
      → FrontOf payload 137 []
  names_front : (fault : ServiceFault) (header : PacketHeader) (part : service.ServicePacket) (next : ℕ)
      → service_faults.PacketFails payload fault → HasItems payload header (items_of part) next
      → FrontOf payload 137 (names_front_fields header part)
  datagram : (packet : datagrams.Packet) (used : ℕ) → datagrams.IsPacket payload packet used → FrontOf payload 138 []
  no_datagram_header : (fault : DatagramFault) → datagram_faults.PacketFails payload fault → LacksHeader payload
      → FrontOf payload 138 []
  datagram_front : (fault : DatagramFault) (front : Front) → datagram_faults.PacketFails payload fault → HasFront payload front
      → FrontOf payload 138 (datagram_front_fields front)
  session : (port : ℕ) (packet : SessionPacket) (used : ℕ) → port ≢ 137 → port ≢ 138 → Parses payload (Whole packet used)
      → FrontOf payload port []
  no_session_header : (port : ℕ) → port ≢ 137 → port ≢ 138 → length payload < 4 → FrontOf payload port []
  session_front : (port : ℕ) (parsed : Parsed) (header : Header) → port ≢ 137 → port ≢ 138 → Parses payload parsed
      → taken_by parsed ≡ None → HasHeader payload header → FrontOf payload port (session_front_fields header)

-- TellsFront payload port fields: these are the fields of what the front of a payload that came to the port says
pub record TellsFront (payload : List ℕ) (port : ℕ) (fields : List Field) : Type 0 where
  pub told : List Field
  pub more : List Field
  pub tells : Tells payload port told
  pub stands : FrontOf payload port more
  pub are : fields ≡ told ++ more

-- IsFrontTold after payload port old new: what is seen after these fields were told, where this was seen before
pub record IsFrontTold {A : Type 0} (after : A → Field → A) (payload : List ℕ) (port : ℕ) (old new : A) : Type 0 where
  pub fields : List Field
  pub tells : TellsFront payload port fields
  pub seen : new ≡ fold after old fields

-- ShowsFront payload port text: the text of what the front of a payload that came to the port says
pub record ShowsFront (payload : List ℕ) (port : ℕ) (text : List ℕ) : Type 0 where
  pub fields : List Field
  pub tells : TellsFront payload port fields
  pub is : text ≡ text_of fields

-- ServiceTold after payload more old new: what is seen after the fields of a payload of port 137 were told, with those of its
-- front if more is asked for
abbrev pub ServiceTold : {A : Type 0} → (A → Field → A) → List ℕ → Bool → A → A → Type 0
ServiceTold after payload false old new = IsTold after payload 137 old new
ServiceTold after payload true old new = IsFrontTold after payload 137 old new
