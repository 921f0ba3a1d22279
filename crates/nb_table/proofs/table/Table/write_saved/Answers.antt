use Rattle.nb_table.proofs.Common.{on_ok_weaker}
use Rattle.nb_table.proofs.SavedBytes.{passes_wrote}
use Rattle.nb_table.proofs.table.Table.write_saved.Goals as goal

pub returns-clause-written : goal.returns-clause-written
returns-clause-written g c = rw (← c.self.view_is) (on_ok_weaker c.write_saved.result (passes_wrote _ _ _) (rw c.as_map.ensures at c.write_saved.ensures.passes))
