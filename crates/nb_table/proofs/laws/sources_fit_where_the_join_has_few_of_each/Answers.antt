use Rattle.nb_table.proofs.Limits.GroupLemmas.{sources_fit_exactly}
use Rattle.nb_table.proofs.laws.sources_fit_where_the_join_has_few_of_each.Goals as goal

pub returns : goal.returns
returns c = sources_fit_exactly
