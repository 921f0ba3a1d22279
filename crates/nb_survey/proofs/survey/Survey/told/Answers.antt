use Rattle.std.proofs.Common.{◌∙◌, sym, ap, filter}
use Rattle.std.proofs.lemmas.Result.{IfOk-weaker}
use Rattle.nb_survey.specs.Code.Kept.{requests_in}
use Rattle.nb_survey.specs.Requests.{answered}
use Rattle.nb_survey.specs.Telling.{about, is_about}
use Rattle.nb_survey.specs.Words.{word_of}
use Rattle.nb_survey.proofs.TellLemmas.{told_none, told_on}
use Rattle.nb_survey.proofs.survey.Survey.told.Goals as goal

pub returns-in_default-get : goal.returns-in_default-get
returns-in_default-get c =
    let heard = c.args.heard.now in
    IfOk-weaker c.say-in_default-get.result _ _ (λ said e name before k. ap (filter (is_about name)) e
    ∙ told_none c.args.self.now heard c.in-Some.asking c.in-Some-name.name (sym c.answer_of.ensures ∙ c.in-Some.is) c.in-Some-name.is (sym c.in_default-get.ensures.value) name before k)
    c.say-in_default-get.ensures

pub returns : goal.returns
returns c =
    let heard = c.args.heard.now in
    let found = c.as_slice-2.ensures.value ∙ (c.in_ok-found.ensures
    ∙ ap (answered c.in-Some.asking heard.facts) (c.as_slice.ensures.value ∙ ap requests_in c.in-Some-get.ensures.value)) in
    IfOk-weaker c.about.result _ _ (λ said e name before k. ap (filter (is_about name)) (e ∙ ap (about heard (word_of heard.flags) c.in-Some-name.name) found)
    ∙ told_on c.args.self.now heard c.in-Some.asking c.in-Some-name.name (sym c.answer_of.ensures ∙ c.in-Some.is) c.in-Some-name.is name before k)
    c.about.ensures
