use Rattle.std.proofs.Common.{◌∙◌, sym, ap}
use Rattle.nb_survey.specs.Hearing.{scope_of}
use Rattle.nb_survey.proofs.HearingLemmas.{scope_of-name, scope_of-others}
use Rattle.nb_survey.proofs.hearing.scope_of.Goals as goal

pub returns-in-Ok : goal.returns-in-Ok
returns-in-Ok c =
    c.copied.ensures ∙ (c.scope.ensures.value ∙ (sym (scope_of-name c.in-Ok.name c.in-Ok.ensures.name.0) ∙ ap scope_of c.in-Ok.ensures.found))

pub returns-in-Err : goal.returns-in-Err
returns-in-Err c = c.empty.ensures ∙ sym (scope_of-others c.args.domain.now c.in-Err.field-0.place c.in-Err.ensures.fault)
