use Rattle.std.proofs.Common.{◌≡◌, ◌∙◌, refl, sym, ap, Option, None, Some, false}
use Rattle.std.specs.Option.{is_some}
use Rattle.nb_survey.specs.Code.Kept.{queries_in}
use Rattle.nb_survey.proofs.survey.Survey.kept_names.Goals as goal

none_from : {A : Type 0} (o : Option A) → is_some o ≡ false → o ≡ None
none_from None e = refl
none_from (Some x) e = absurd (cc)

pub returns : goal.returns
returns c = λ packets sums name whole apart.
    sym (sums name whole).1 ∙ ap queries_in (none_from _ (c.keys.ensures.has name ∙ apart))
