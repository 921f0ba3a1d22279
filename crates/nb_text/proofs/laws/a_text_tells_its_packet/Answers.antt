use Rattle.nb_text.proofs.SessionTells.{session_tells}
use Rattle.nb_text.proofs.DatagramTells.{datagram_tells}
use Rattle.nb_text.proofs.ServiceTells.{service_tells}
use Rattle.nb_text.proofs.laws.a_text_tells_its_packet.Goals as goal

pub returns : goal.returns
returns c = record {
  sessions = session_tells;
  datagrams = datagram_tells;
  names = service_tells;
}
