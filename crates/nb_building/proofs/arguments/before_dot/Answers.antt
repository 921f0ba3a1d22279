use Rattle.nb_building.proofs.MarkLemmas.{no_number_before, none_passed_on}
use Rattle.nb_building.proofs.arguments.before_dot.Goals as goal

pub returns-in_err-number : goal.returns-in_err-number
returns-in_err-number c =
    none_passed_on _ _ _ c.from_residual.result c.from_residual.ensures.1 c.in_err-number.ensures.0
    (λ parts h. c.in_err-number.ensures.1 (_, parts.1) h.1)

pub returns-in_err-small_number : goal.returns-in_err-small_number
returns-in_err-small_number c =
    none_passed_on _ _ _ c.from_residual-in_err-small_number.result c.from_residual-in_err-small_number.ensures.1
    c.in_err-small_number.ensures.0 (no_number_before _ _ _ c.in_ok-number.ensures c.in_err-small_number.ensures.1)
