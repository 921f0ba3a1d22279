-- What the calls that read packets of port 139 answer (RFC 1002 section 4.3).
use Rattle.std.specs.Prelude.{◌≡◌, ℕ, ◌-◌, List, length, Result, Ok, Err, ◌<◌, ◌≤◌, ◌++◌}
use Rattle.nb_calls.specs.Common.{w32, from_be_bytes, spelling, NetbiosName, labels_of_name, MAX_MESSAGE, MORE}
use Rattle.nb_session.specs.declared.limits.TheConstants.{HEADER_LENGTH}
use Rattle.nb_session.specs.declared.packet.Packet.TheVariants.{Message, Request, Positive, Negative, Retarget, Keepalive}
use Rattle.nb_session.specs.declared.parsing.Parsed.TheVariants.{Whole, More, Refused}
use Rattle.nb_session.specs.Header.{type_of, HasHeader, body_length, header_bytes}
use Rattle.nb_session.specs.Packet.{Packet, kind_of}
use Rattle.nb_session.specs.Parsing.{Parsed, Parses}
use Rattle.nb_calls.specs.declared.sessions.NbtSessionNames.{NbtSessionNames}
use Rattle.nb_calls.specs.declared.sessions.NbtSessionRetarget.{NbtSessionRetarget}
use Rattle.nb_calls.specs.declared.sessions.NbtSession.{NbtSession}
use Rattle.nb_calls.specs.declared.statuses.TheConstants as statuses
use Rattle.nb_calls.specs.Names.{spelled_in_place}
use Rattle.nb_calls.specs.Statuses.{Refusal, Memory, Fault, FaultAt, session_refusal}
use Rattle.nb_session.specs.declared.parsing.Header.{Header}
use Rattle.nb_calls.specs.declared.sessions.NbtSessionFront.{NbtSessionFront}
use Rattle.nb_session.specs.declared.packet.Kind.{Kind}

-- answer_by told parsed: what is told of the packet that stands at the front, with the bytes it takes up, or why none does
abbrev pub answer_by : {A : Type 0} → (Packet → ℕ → Result A Refusal) → Parsed → Result A Refusal
answer_by told (Whole packet used) = told packet used
answer_by told (More needed) = Err (FaultAt statuses.MORE needed)
answer_by told (Refused fault) = Err (session_refusal fault)

-- ReadsBy told bytes answer: this is answered of what stands at the front of the bytes
abbrev pub ReadsBy : {A : Type 0} → (Packet → ℕ → Result A Refusal) → List ℕ → Result A Refusal → Type 0
ReadsBy told bytes answer = (parsed : Parsed) × Parses bytes parsed × (answer ≡ answer_by told parsed)

-- ---- any packet

-- session_of packet used: the type of a packet that has so many bytes, and where its body stands
abbrev pub session_of : Packet → ℕ → NbtSession
session_of packet used = record {
  packet_type = type_of (kind_of packet);
  body = HEADER_LENGTH;
  body_length = used - HEADER_LENGTH;
  used = used;
}

-- what is told of a packet that has so many bytes
abbrev pub session_answer : Packet → ℕ → Result NbtSession Refusal
session_answer packet used = Ok (session_of packet used)

-- Reads bytes answer: this is answered of what stands at the front of the bytes
abbrev pub Reads : List ℕ → Result NbtSession Refusal → Type 0
Reads = ReadsBy session_answer

-- ---- the parts of one type

-- names_of called calling: both names, spelled out in place
abbrev pub names_of : NetbiosName → NetbiosName → NbtSessionNames
names_of called calling = record {
  called_length = length (spelling (labels_of_name called));
  called = spelled_in_place (labels_of_name called);
  calling_length = length (spelling (labels_of_name calling));
  calling = spelled_in_place (labels_of_name calling);
}

-- the names of a request; other packets have none
abbrev pub names_answer : Packet → Result NbtSessionNames Refusal
names_answer (Message contents) = Err (Fault statuses.OTHER_TYPE)
names_answer (Request called calling) = Ok (names_of called calling)
names_answer Positive = Err (Fault statuses.OTHER_TYPE)
names_answer (Negative code) = Err (Fault statuses.OTHER_TYPE)
names_answer (Retarget address port) = Err (Fault statuses.OTHER_TYPE)
names_answer Keepalive = Err (Fault statuses.OTHER_TYPE)

-- ReadsNames bytes answer: this is answered of the names of the request that stands at the front
abbrev pub ReadsNames : List ℕ → Result NbtSessionNames Refusal → Type 0
ReadsNames = ReadsBy (λ packet used. names_answer packet)

-- retarget_of address port: the address as one number, and the port
abbrev pub retarget_of : List ℕ → ℕ → NbtSessionRetarget
retarget_of address port = record { address = from_be_bytes w32 address; port = port }

-- where a retarget leads; other packets lead nowhere
abbrev pub retarget_answer : Packet → Result NbtSessionRetarget Refusal
retarget_answer (Message contents) = Err (Fault statuses.OTHER_TYPE)
retarget_answer (Request called calling) = Err (Fault statuses.OTHER_TYPE)
retarget_answer Positive = Err (Fault statuses.OTHER_TYPE)
retarget_answer (Negative code) = Err (Fault statuses.OTHER_TYPE)
retarget_answer (Retarget address port) = Ok (retarget_of address port)
retarget_answer Keepalive = Err (Fault statuses.OTHER_TYPE)

-- ReadsRetarget bytes answer: this is answered of where the retarget leads that stands at the front
abbrev pub ReadsRetarget : List ℕ → Result NbtSessionRetarget Refusal → Type 0
ReadsRetarget = ReadsBy (λ packet used. retarget_answer packet)

-- ---- what the call that reads the header at the front of what came over a connection to port 139 answers, whether
-- or not a packet stands there (RFC 1002 section 4.3.1)

-- what a header says
abbrev pub numbers : Header → NbtSessionFront
numbers header = record {
  packet_type = header.packet_type;
  flags = header.flags;
  body_length = body_length header;
}

-- ReadsFront bytes answer: this header stands at the front of the bytes, or so many of its four are missing
abbrev pub ReadsFront : List ℕ → Result NbtSessionFront Refusal → Type 0
ReadsFront bytes (Ok found) = (header : Header) × HasHeader bytes header × (found ≡ numbers header)
ReadsFront bytes (Err refusal) = (length bytes < HEADER_LENGTH) × (refusal ≡ FaultAt MORE (HEADER_LENGTH - length bytes))

-- ---- what the call that writes packets of port 139 answers (RFC 1002 section 4.3)

-- a header of this kind, and the body after it
abbrev pub frame : Kind → List ℕ → List ℕ
frame kind body = header_bytes kind (length body) ++ body

-- unless_faulty bytes parsed: the bytes, where a packet stands at their front, else why none does
abbrev pub unless_faulty : List ℕ → Parsed → Result (List ℕ) Refusal
unless_faulty bytes (Whole packet used) = Ok bytes
unless_faulty bytes (More needed) = Err (FaultAt statuses.MORE needed)
unless_faulty bytes (Refused fault) = Err (session_refusal fault)

-- Stands bytes answer: the bytes are answered, where a packet stands at their front, else why none does
abbrev pub Stands : List ℕ → Result (List ℕ) Refusal → Type 0
Stands bytes answer = (parsed : Parsed) × Parses bytes parsed × (answer ≡ unless_faulty bytes parsed)

-- WritesPacket type body answer: the packet with this type and this body is answered, if it is read as one, else why it isn't;
-- memory may run out for one that isn't too long
pub data WritesPacket (type : ℕ) (body : List ℕ) : Result (List ℕ) Refusal → Type 0 where
  unknown_type : ((kind : Kind) → ¬ (type_of kind ≡ type)) → WritesPacket type body (Err (Fault statuses.UNKNOWN_TYPE))
  too_long : (kind : Kind) → type_of kind ≡ type → MAX_MESSAGE < length body
      → WritesPacket type body (Err (Fault statuses.BAD_LENGTH))
  lacks : (kind : Kind) → type_of kind ≡ type → length body ≤ MAX_MESSAGE → WritesPacket type body (Err Memory)
  judged : (kind : Kind) (answer : Result (List ℕ) Refusal) → type_of kind ≡ type → length body ≤ MAX_MESSAGE
      → Stands (frame kind body) answer → WritesPacket type body answer
