use Rattle.nb_table.proofs.Common.{sym, ◌∙◌, ap, list_all, is_short}
use Rattle.nb_table.proofs.table.fitting.are_short.Goals as goal

pub returns : goal.returns
returns c = sym (c.loop-key.invariant ∙ ap (list_all (λ e. is_short c.args.longest e.1)) c.in-None.ensures.steps.0)
