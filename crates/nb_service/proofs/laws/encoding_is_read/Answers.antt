use Rattle.nb_service.proofs.EncodingLemmas.{packet_there}
use Rattle.nb_service.proofs.laws.encoding_is_read.Goals as goal

pub returns : goal.returns
returns c = packet_there
