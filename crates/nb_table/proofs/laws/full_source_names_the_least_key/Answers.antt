use Rattle.nb_table.proofs.Common.{of_source}
use Rattle.nb_table.proofs.Limits.RefusalLemmas.{unfit_new, held_least, source_others}
use Rattle.nb_table.proofs.laws.full_source_names_the_least_key.Goals as goal

pub returns-clause-new : goal.returns-clause-new
returns-clause-new c = λ l s t k h. unfit_new l.per_source (of_source k.ip) s t k h.1.unfit

pub returns-clause-least : goal.returns-clause-least
returns-clause-least c = λ l s t k few h. held_least l.per_source (of_source k.ip) s t k (few k.ip) h.1.unfit

pub returns-clause-others : goal.returns-clause-others
returns-clause-others c = λ l s t k few h. source_others l.per_source s t k few h.1
