use Rattle.nb_service.proofs.NumberedLemmas.{packet_items}
use Rattle.nb_service.proofs.laws.items_of_a_packet.Goals as goal

pub returns : goal.returns
returns c = packet_items
