use Rattle.nb_table.proofs.Common.{err_from_is_err_and, stops, goes_on, good, bad}
use Rattle.std.proofs.lemmas.Bool.Decides.{not_from_Decides}
use Rattle.nb_table.proofs.saved.read_key.Goals as goal

pub returns-in_err-key : goal.returns-in_err-key
returns-in_err-key c =
    let p = err_from_is_err_and c.from_residual.result c.from_residual.ensures.1 in rw (p.1, p.2) (stops _ c.in_err-key.ensures)

pub returns-then-not-is_after : goal.returns-then-not-is_after
returns-then-not-is_after c =
    goes_on _ _ c.in_ok-key.ensures (bad (not_from_Decides c.is_after.result c.is_after.ensures c.if-not-is_after.true))

pub returns : goal.returns
returns c = goes_on _ _ c.in_ok-key.ensures (good (c.is_after.ensures.0 c.if-not-is_after.false))
