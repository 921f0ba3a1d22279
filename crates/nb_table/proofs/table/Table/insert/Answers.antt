use Rattle.nb_table.proofs.Common.{sym, subst, Change}
use Rattle.nb_table.specs.Change.{IsChange}
use Rattle.nb_table.proofs.table.Table.insert.Goals as goal

pub returns-in-Ok-clause-change : goal.returns-in-Ok-clause-change
returns-in-Ok-clause-change c =
    let told = c.in-Ok.ensures.change in
    rw (← c.lent-lent.ensures, c.made_by.ensures) (subst (λ (x : Change). IsChange c.args.self.now.contents c.insert_with.new.self.contents c.lent-lent.result.key x) (sym told.2) told.1)

pub returns-in-Err-clause-refused : goal.returns-in-Err-clause-refused
returns-in-Err-clause-refused c = rw (← c.lent-lent.ensures) c.in-Err.ensures.refused

pub returns-in-Err-clause-without_memory : goal.returns-in-Err-clause-without_memory
returns-in-Err-clause-without_memory c = rw (← c.lent-lent.ensures) c.in-Err.ensures.without_memory
