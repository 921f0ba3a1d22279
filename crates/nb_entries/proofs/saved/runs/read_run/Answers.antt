use Rattle.nb_entries.proofs.Common.{arith, stops, goes_on, gives, good, bad}
use Rattle.nb_entries.specs.Shared.FoundLemmas.{bytes_found}
use Rattle.nb_entries.proofs.SavedReading.{stopped}
use Rattle.nb_entries.proofs.saved.runs.read_run.Goals as goal

pub returns-in_err-start : goal.returns-in_err-start
returns-in_err-start c = stopped _ _ c.from_residual.ensures.1 (stops _ c.in_err-start.ensures)

pub returns-then-from-least : goal.returns-then-from-least
returns-then-from-least c = stops _ (goes_on _ _ c.in_ok-start.ensures (bad (λ h. omega (arith, h))))

pub returns-in_err-size : goal.returns-in_err-size
returns-in_err-size c =
    goes_on _ _ (goes_on _ _ c.in_ok-start.ensures (good (omega arith))) (stopped _ _ c.from_residual-in_err-size.ensures.1 (stops _ c.in_err-size.ensures))

pub returns-then-size-eq0 : goal.returns-then-size-eq0
returns-then-size-eq0 c =
    goes_on _ _ (goes_on _ _ c.in_ok-start.ensures (good (omega arith)))
    (stops _ (goes_on _ _ c.in_ok-size.ensures (bad (λ h. omega (arith, h.0, h.1)))))

pub returns-in_err-bytes : goal.returns-in_err-bytes
returns-in_err-bytes c =
    goes_on _ _ (goes_on _ _ c.in_ok-start.ensures (good (omega arith)))
    (goes_on _ _ (goes_on _ _ c.in_ok-size.ensures (good (omega arith, omega arith))) (stopped _ _ c.from_residual-in_err-bytes.ensures.1 c.in_err-bytes.ensures))

pub returns : goal.returns
returns c =
    goes_on _ _ (goes_on _ _ c.in_ok-start.ensures (good (omega arith)))
    (goes_on _ _ (goes_on _ _ c.in_ok-size.ensures (good (omega arith, omega arith))) (goes_on _ _ c.in_ok-bytes.ensures gives))

pub invariant_of-result : goal.invariant_of-result
invariant_of-result c = let sized = (bytes_found _ _ _ _ _ c.in_ok-bytes.ensures).1 in omega (arith, sized)
