use Rattle.std.proofs.Common.{◌∙◌, sym, ap}
use Rattle.nb_survey.specs.Rows.{keys_of, row_at}
use Rattle.nb_survey.specs.Telling.{words_of}
use Rattle.nb_survey.proofs.survey.Survey.row.Goals as goal

pub returns-in-None : goal.returns-in-None
returns-in-None c = λ packets sums whole.
    let key = c.args.key.now in
    c.row.ensures ∙ ((sums key.name whole).0.rows key.address key.reason ∙ ap (λ r. row_at (keys_of r) key (words_of key.name packets)) (sym c.in-None.is))

pub returns-in-Some : goal.returns-in-Some
returns-in-Some c = λ packets sums whole.
    let key = c.args.key.now in
    c.row-in-Some.ensures ∙ ((sums key.name whole).0.refusals key.address key.reason ∙ ap (λ r. row_at (keys_of r) key (words_of key.name packets)) (sym c.in-Some.is))
