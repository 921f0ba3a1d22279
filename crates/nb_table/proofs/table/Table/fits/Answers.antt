use Rattle.std.proofs.lemmas.Bool.Decides.{not_from_Decides}
use Rattle.nb_table.proofs.table.Table.fits.Goals as goal

pub returns-then-not-is_short-clause-fault : goal.returns-then-not-is_short-clause-fault
returns-then-not-is_short-clause-fault c = rw (← c.self.view_is) (not_from_Decides c.is_short.result c.is_short.ensures c.if-not-is_short.true)
