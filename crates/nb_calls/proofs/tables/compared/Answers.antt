use Rattle.nb_calls.proofs.Common.{refl, first_fails, second_fails, both}
use Rattle.std.proofs.lemmas.Result.{err_from_is_err_and}
use Rattle.nb_calls.proofs.DifferLemmas.{least_is}
use Rattle.nb_calls.proofs.tables.compared.Goals as goal

pub returns-in_err-one : goal.returns-in_err-one
returns-in_err-one c =
    let p = err_from_is_err_and c.from_residual.result c.from_residual.ensures.1 in rw (p.1, p.2) (first_fails _ c.in_err-one.ensures)

pub returns-in_err-other : goal.returns-in_err-other
returns-in_err-other c =
    let p = err_from_is_err_and c.from_residual-in_err-other.result c.from_residual-in_err-other.ensures.1 in
    rw (p.1, p.2) (second_fails _ _ c.in_ok-one.ensures c.in_err-other.ensures)

pub returns : goal.returns
returns c =
    rw c.difference_of.ensures (both _ _ _ c.in_ok-one.ensures c.in_ok-other.ensures
    (_, least_is _ _ _ _ c.least_of-least.ensures c.least_of.ensures, refl))
