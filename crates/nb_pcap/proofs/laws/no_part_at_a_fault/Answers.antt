use Rattle.nb_pcap.proofs.LawLemmas.{unfinished_there, bad_there}
use Rattle.nb_pcap.proofs.laws.no_part_at_a_fault.Goals as goal

pub returns-clause-cut : goal.returns-clause-cut
returns-clause-cut c = unfinished_there

pub returns-clause-bad : goal.returns-clause-bad
returns-clause-bad c = bad_there
