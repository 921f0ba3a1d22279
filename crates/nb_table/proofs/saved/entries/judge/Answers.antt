use Rattle.nb_table.proofs.Common.{arith, err_from_is_err_and}
use Rattle.nb_table.proofs.SavedReading.FoundLemmas.{count_cut, entries_failed, bytes_after, all_judged}
use Rattle.nb_table.proofs.saved.entries.judge.Goals as goal

pub returns-in_err-count-clause-fault : goal.returns-in_err-count-clause-fault
returns-in_err-count-clause-fault c =
    let p = err_from_is_err_and c.from_residual.result c.from_residual.ensures.1 in
    rw (p.1, p.2) (count_cut c.args.form _ _ c.requires c.in_err-count.ensures)

pub returns-in_err-within-clause-fault : goal.returns-in_err-within-clause-fault
returns-in_err-within-clause-fault c =
    let p = err_from_is_err_and c.from_residual-in_err-within.result c.from_residual-in_err-within.ensures.1 in
    rw (p.1, p.2) (entries_failed c.args.form _ _ _ _ c.requires c.in_ok-count.ensures c.in_err-within.ensures.fault)

pub returns-then-last-input-clause-fault : goal.returns-then-last-input-clause-fault
returns-then-last-input-clause-fault c =
    bytes_after c.args.form _ _ _ _ _ _ _ _ c.requires c.in_ok-count.ensures c.in_ok-within.ensures.found c.if-last-input.true

pub returns-clause-found : goal.returns-clause-found
returns-clause-found c =
    all_judged c.args.form _ _ _ _ _ _ _ _ c.requires c.in_ok-count.ensures c.in_ok-within.ensures.found (omega arith)
