use Rattle.nb_text.specs.Made as made
use Rattle.nb_text.specs.TellsFront as fronts
use Rattle.nb_text.proofs.TellsLemmas.{front_alone}
use Rattle.nb_text.proofs.laws.fronts_of_packets.Goals as goal

pub returns-clause-names : goal.returns-clause-names
returns-clause-names c payload packet used h = front_alone payload 137 _ (made.names packet used h) (fronts.names packet used h)

pub returns-clause-datagrams : goal.returns-clause-datagrams
returns-clause-datagrams c payload packet used h = front_alone payload 138 _ (made.datagram packet used h) (fronts.datagram packet used h)

pub returns-clause-sessions : goal.returns-clause-sessions
returns-clause-sessions c payload port packet used a b h =
    front_alone payload port _ (made.session port _ a b h) (fronts.session port packet used a b h)
