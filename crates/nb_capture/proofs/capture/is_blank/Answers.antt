use Rattle.std.proofs.Common.{sym, ◌∙◌, ap, Some, refl}
use Rattle.nb_capture.proofs.CaptureLemmas.Words.{blank_if_empty, comment_test}
use Rattle.nb_capture.proofs.capture.is_blank.Goals as goal

pub returns-in-None : goal.returns-in-None
returns-in-None c =
    (λ _. blank_if_empty c.args.line.now (sym c.in-None.ensures.value), λ _. refl)

pub returns-in-Some-eq35 : goal.returns-in-Some-eq35
returns-in-Some-eq35 c =
    comment_test c.args.line.now c.contains.result (sym c.in-Some-eq35.ensures.value ∙ ap Some c.in-Some-eq35.field-0-test)
    c.contains.ensures.cases
