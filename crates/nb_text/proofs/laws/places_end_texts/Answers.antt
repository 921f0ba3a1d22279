use Rattle.nb_text.proofs.PlaceLemmas.{service_place_ends, datagram_place_ends, session_place_ends}
use Rattle.nb_text.proofs.laws.places_end_texts.Goals as goal

pub returns-clause-services : goal.returns-clause-services
returns-clause-services c = service_place_ends

pub returns-clause-datagrams : goal.returns-clause-datagrams
returns-clause-datagrams c = datagram_place_ends

pub returns-clause-sessions : goal.returns-clause-sessions
returns-clause-sessions c = session_place_ends
