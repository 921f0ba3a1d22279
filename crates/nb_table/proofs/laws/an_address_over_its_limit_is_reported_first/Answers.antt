use Rattle.nb_table.proofs.Limits.RefusalLemmas.{insert_few, merge_few, load_few}
use Rattle.nb_table.proofs.laws.an_address_over_its_limit_is_reported_first.Goals as goal

pub returns-clause-insert : goal.returns-clause-insert
returns-clause-insert c = insert_few

pub returns-clause-merge : goal.returns-clause-merge
returns-clause-merge c = merge_few

pub returns-clause-load : goal.returns-clause-load
returns-clause-load c = load_few
