use Rattle.nb_pcap.proofs.TakingLemmas.{given_none, given_next, given_all, given_some}
use Rattle.nb_pcap.proofs.laws.frames_in_order.Goals as goal

pub returns-clause-none : goal.returns-clause-none
returns-clause-none c = given_none

pub returns-clause-next : goal.returns-clause-next
returns-clause-next c = given_next

pub returns-clause-end : goal.returns-clause-end
returns-clause-end c = given_all

pub returns-clause-fault : goal.returns-clause-fault
returns-clause-fault c = given_some
