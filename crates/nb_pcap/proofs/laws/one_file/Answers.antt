use Rattle.nb_pcap.proofs.LawLemmas.{one_list, one_front}
use Rattle.nb_pcap.proofs.laws.one_file.Goals as goal

pub returns-clause-whole : goal.returns-clause-whole
returns-clause-whole c = one_list

pub returns-clause-front : goal.returns-clause-front
returns-clause-front c = one_front
