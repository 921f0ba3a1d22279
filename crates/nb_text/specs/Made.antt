-- What is made of a payload that came to a port, such as its text, its fields and its phrase (our choice): by a row for each
-- thing that a payload may begin with.
use Rattle.std.specs.Prelude.{◌≢◌, ℕ, List}
use Rattle.nb_service.specs.declared.fault.ServiceFault.{ServiceFault}
use Rattle.nb_service.specs.Packet as service
use Rattle.nb_service.specs.ServiceFaults as service_faults
use Rattle.nb_datagram.specs.declared.fault.DatagramFault.{DatagramFault}
use Rattle.nb_datagram.specs.Packet as datagrams
use Rattle.nb_datagram.specs.DatagramFaults as datagram_faults
use Rattle.nb_session.specs.Parsing.{Parsed, Parses}

-- what is made of a packet that takes up so many bytes, of a fault, and of what a session packet is parsed as
pub record Made (B : Type 0) : Type 0 where
  pub of_names : service.ServicePacket → ℕ → B
  pub of_no_names : ServiceFault → B
  pub of_datagram : datagrams.Packet → ℕ → B
  pub of_no_datagram : DatagramFault → B
  pub of_session : Parsed → B

-- IsMade made payload port b: that is made of a payload that came to the port. One of a port that is neither 137 nor 138 is
-- taken for a session packet, port 139
pub data IsMade {B : Type 0} (made : Made B) (payload : List ℕ) : ℕ → B → Type 0 where
  names : (packet : service.ServicePacket) (used : ℕ) → service.IsPacket payload packet used
      → IsMade made payload 137 (made.of_names packet used)
  no_names : (fault : ServiceFault) → service_faults.PacketFails payload fault → IsMade made payload 137 (made.of_no_names fault)
  datagram : (packet : datagrams.Packet) (used : ℕ) → datagrams.IsPacket payload packet used
      → IsMade made payload 138 (made.of_datagram packet used)
  no_datagram : (fault : DatagramFault) → datagram_faults.PacketFails payload fault
      → IsMade made payload 138 (made.of_no_datagram fault)
  session : (port : ℕ) (parsed : Parsed) → port ≢ 137 → port ≢ 138 → Parses payload parsed
      → IsMade made payload port (made.of_session parsed)
