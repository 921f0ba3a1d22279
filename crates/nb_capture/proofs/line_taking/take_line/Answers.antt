use Rattle.nb_capture.proofs.Common.{◌∙◌, Err, ap, refl, subst, IfErr-weaker, on_ok_weaker, Reads}
use Rattle.nb_capture.specs.Code.LineTurns.{malformed, no_memory, not_taken}
use Rattle.nb_capture.proofs.line_taking.take_line.Goals as goal

pub returns-in-Ok-clause-taken : goal.returns-in-Ok-clause-taken
returns-in-Ok-clause-taken g c =
    let reads = subst (λ r. Reads c.args.line.now r) c.in-Ok.is c.capture_line_in.ensures in
    on_ok_weaker c.take-taken.result (λ takes. record { said = c.in-Ok.said; reads = reads; takes = takes }) c.take-taken.ensures.taken

pub returns-in-Ok-clause-fault : goal.returns-in-Ok-clause-fault
returns-in-Ok-clause-fault g c =
    let reads = subst (λ r. Reads c.args.line.now r) c.in-Ok.is c.capture_line_in.ensures in
    IfErr-weaker c.take-taken.result _ _ (λ fault fails. not_taken c.in-Ok.said reads fails) c.take-taken.ensures.fault

pub returns-in-Err-BadLine-clause-fault : goal.returns-in-Err-BadLine-clause-fault
returns-in-Err-BadLine-clause-fault g c =
    malformed (subst (λ r. Reads c.args.line.now r) (c.in-Err-BadLine.is ∙ ap Err c.in-Err-BadLine.field-0-is) c.capture_line_in.ensures) refl c.from.ensures

pub returns-in-Err-NoMemory-clause-fault : goal.returns-in-Err-NoMemory-clause-fault
returns-in-Err-NoMemory-clause-fault g c = no_memory refl c.from-in-Err-NoMemory.ensures
