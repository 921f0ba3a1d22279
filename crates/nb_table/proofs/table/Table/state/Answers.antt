use Rattle.nb_table.proofs.Common.{sym}
use Rattle.nb_table.proofs.TableReads.{state_at}
use Rattle.nb_table.proofs.table.Table.state.Goals as goal

pub returns-in-Some : goal.returns-in-Some
returns-in-Some c =
    rw (← c.self.view_is) (state_at c.self.inside.entries c.args.key.now c.in-Some.entry.now c.state.result (sym c.in-Some.ensures) c.state.ensures)

pub returns-in-None : goal.returns-in-None
returns-in-None c =
    rw (← c.self.view_is) (sym c.in-None.ensures)
