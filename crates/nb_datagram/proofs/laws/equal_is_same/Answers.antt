use Rattle.nb_datagram.specs.EqualityFacts.{fragment_eq_decides, datagram_eq_decides}
use Rattle.nb_datagram.proofs.laws.equal_is_same.Goals as goal

pub returns-clause-fragments : goal.returns-clause-fragments
returns-clause-fragments c = fragment_eq_decides

pub returns-clause-datagrams : goal.returns-clause-datagrams
returns-clause-datagrams c = datagram_eq_decides
