use Rattle.nbt_reassembly.proofs.Common.{err_from_is_err_and}
use Rattle.nbt_reassembly.proofs.TableTurns.{reading_none, read_more, read_all, fails_here}
use Rattle.nbt_reassembly.proofs.tables.tables_of.Goals as goal

pub loop-line-init : goal.loop-line-init
loop-line-init c = reading_none _ _ _ c.new-tables.ensures.items

pub loop-line-preserved : goal.loop-line-preserved
loop-line-preserved c =
    read_more _ _ _ _ _ _ _ _ _ c.in-Some.ensures.found c.in-Some.ensures.shorter c.in_ok-table.ensures.found c.in_ok-push.ensures.items c.loop-line.invariant

pub returns-clause-found : goal.returns-clause-found
returns-clause-found c = read_all _ _ _ _ _ c.in_default.ensures.none c.loop-line.invariant

pub returns-in_err-table-clause-fault : goal.returns-in_err-table-clause-fault
returns-in_err-table-clause-fault c =
    let p = err_from_is_err_and c.from_residual.result c.from_residual.ensures.1 in
    rw (p.1, p.2) (λ not_memory. fails_here _ _ _ _ _ _ _ _ c.in-Some.ensures.found c.in_err-table.ensures.fault c.loop-line.invariant)
