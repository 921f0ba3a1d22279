use Rattle.nb_entries.proofs.Common.{not_from_Decides, err_from_is_err_and, gives}
use Rattle.nb_entries.proofs.SavedReading.{promise_good, promise_bad, promise_ill}
use Rattle.nb_entries.proofs.saved.fields.read_promise.Goals as goal

pub returns-in-First : goal.returns-in-First
returns-in-First c = rw c.in-First.is gives

pub returns-in_err-promise : goal.returns-in_err-promise
returns-in_err-promise c =
    let p = err_from_is_err_and c.from_residual.result c.from_residual.ensures.1 in rw (p.1, p.2, c.in-Second.is) (promise_ill _ _ _ _ c.in_err-promise.ensures)

pub returns-then-not-is_below_end : goal.returns-then-not-is_below_end
returns-then-not-is_below_end c =
    rw c.in-Second.is (promise_bad _ _ _ _ _ c.in_ok-promise.ensures (not_from_Decides c.is_below_end.result c.is_below_end.ensures c.if-not-is_below_end.true))

pub returns : goal.returns
returns c = rw c.in-Second.is (promise_good _ _ _ _ _ c.in_ok-promise.ensures (c.is_below_end.ensures.0 c.if-not-is_below_end.false))
