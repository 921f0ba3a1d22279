use Rattle.nb_entries.proofs.Common.{arith, take_rest, goes_on, whole_row}
use Rattle.nb_entries.proofs.SavedReading.{stopped, row_turn, row_stopped, row_ended}
use Rattle.nb_entries.proofs.saved.runs.read_runs.Goals as goal

pub returns-in_err-count : goal.returns-in_err-count
returns-in_err-count c = stopped _ _ c.from_residual.ensures.1 c.in_err-count.ensures

pub returns-in_err-run : goal.returns-in_err-run
returns-in_err-run c =
    goes_on _ _ c.in_ok-count.ensures (row_stopped _ _ _ _ _ _ _ _ _ c.loop.invariant (omega arith) c.from_residual-in_err-run.ensures.1 c.in_err-run.ensures)

pub loop-preserved : goal.loop-preserved
loop-preserved c = rw c.end-least.ensures (row_turn _ _ _ _ _ _ _ _ _ c.loop.invariant c.in_ok-run.ensures)

pub invariant_of-result : goal.invariant_of-result
invariant_of-result c =
    let row = whole_row _ _ _ _ _ _ (row_ended _ _ _ _ _ _ _ c.loop.invariant (omega arith)) in
    rw (take_rest c.args.input.now c.in_ok-count.first) (row.there, row.apart)

pub returns : goal.returns
returns c =
    let row = whole_row _ _ _ _ _ _ (row_ended _ _ _ _ _ _ _ c.loop.invariant (omega arith)) in
    rw (take_rest c.args.input.now c.in_ok-count.first) (goes_on _ _ c.in_ok-count.ensures row.read)
