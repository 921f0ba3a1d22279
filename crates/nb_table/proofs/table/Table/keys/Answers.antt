use Rattle.nb_table.proofs.Common.{◌∙◌}
use Rattle.nb_table.proofs.table.Table.keys.Goals as goal

pub returns : goal.returns
returns c = rw (← c.self.view_is) (c.of.ensures ∙ c.keys.ensures)
