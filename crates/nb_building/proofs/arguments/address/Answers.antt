use Rattle.nb_building.proofs.MarkLemmas.{no_first, no_fourth, no_second, no_third, none_passed_on}
use Rattle.nb_building.proofs.arguments.address.Goals as goal

pub returns-in_err-first : goal.returns-in_err-first
returns-in_err-first c =
    none_passed_on _ _ _ c.from_residual.result c.from_residual.ensures.1 c.in_err-first.ensures.0 (no_first _ c.in_err-first.ensures.1)

pub returns-in_err-second : goal.returns-in_err-second
returns-in_err-second c =
    none_passed_on _ _ _ c.from_residual-in_err-second.result c.from_residual-in_err-second.ensures.1 c.in_err-second.ensures.0
    (no_second _ _ _ c.in_ok-first.ensures.0 c.in_ok-first.ensures.1 c.in_err-second.ensures.1)

pub returns-in_err-third : goal.returns-in_err-third
returns-in_err-third c =
    none_passed_on _ _ _ c.from_residual-in_err-third.result c.from_residual-in_err-third.ensures.1 c.in_err-third.ensures.0
    (no_third _ _ _ _ _ c.in_ok-first.ensures.0 c.in_ok-first.ensures.1 c.in_ok-second.ensures.0 c.in_ok-second.ensures.1
    c.in_err-third.ensures.1)

pub returns-in_err-small_number : goal.returns-in_err-small_number
returns-in_err-small_number c =
    none_passed_on _ _ _ c.from_residual-in_err-small_number.result c.from_residual-in_err-small_number.ensures.1
    c.in_err-small_number.ensures.0
    (no_fourth _ _ _ _ _ _ _ c.in_ok-first.ensures.0 c.in_ok-first.ensures.1 c.in_ok-second.ensures.0 c.in_ok-second.ensures.1
    c.in_ok-third.ensures.0 c.in_ok-third.ensures.1 c.in_err-small_number.ensures.1)
