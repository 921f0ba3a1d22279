use Rattle.nb_entries.proofs.Common.{goes_on, gives}
use Rattle.nb_entries.proofs.SavedReading.{stopped}
use Rattle.nb_entries.proofs.saved.fields.read_marks.Goals as goal

pub returns-in_err-end : goal.returns-in_err-end
returns-in_err-end c = stopped _ _ c.from_residual.ensures.1 c.in_err-end.ensures

pub returns-in_err-promise : goal.returns-in_err-promise
returns-in_err-promise c = goes_on _ _ c.in_ok-end.ensures (stopped _ _ c.from_residual-in_err-promise.ensures.1 c.in_err-promise.ensures)

pub returns : goal.returns
returns c = goes_on _ _ c.in_ok-end.ensures (goes_on _ _ c.in_ok-promise.ensures gives)
