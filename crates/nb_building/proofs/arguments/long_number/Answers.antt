use Rattle.nb_building.proofs.Common.{refl, sym, ◌∙◌, false≢true}
use Rattle.nb_building.proofs.ArgumentLemmas.{decimal_passes, no_number_from_parse, number_from_parse, number_leads, told_as}
use Rattle.nb_building.proofs.arguments.long_number.Goals as goal

pub returns : goal.returns
returns c =
    told_as _ _ _ c.parse.result c.or.result c.or.ensures
    (λ n is. number_from_parse c.args.text.now c.parse.result n is (c.is_decimal.ensures.digits c.if-not-is_decimal.false)
    (c.is_decimal.ensures.leading c.if-not-is_decimal.false) c.parse.ensures.value.0)
    (λ e is. (refl, no_number_from_parse c.args.text.now c.parse.result e is c.parse.ensures.value.0))

pub returns-then-not-is_decimal : goal.returns-then-not-is_decimal
returns-then-not-is_decimal c = (refl, λ number names. let yes = c.is_decimal.ensures.only (number_leads number _ names) (decimal_passes number _ names) in absurd (false≢true (sym c.if-not-is_decimal.true ∙ yes)))
