use Rattle.nb_table.proofs.Common.{every_key}
use Rattle.nb_table.proofs.Limits.RefusalLemmas.{unfit_new, full_least}
use Rattle.nb_table.proofs.laws.full_names_the_least_key.Goals as goal

pub returns-clause-new : goal.returns-clause-new
returns-clause-new c = λ l s t k h. unfit_new l.keys every_key s t k h.1

pub returns-clause-least : goal.returns-clause-least
returns-clause-least c = full_least
