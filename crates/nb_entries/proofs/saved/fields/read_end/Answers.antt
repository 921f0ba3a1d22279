use Rattle.nb_entries.proofs.Common.{arith, goes_on, gives, is_0, is_1, is_neither}
use Rattle.nb_entries.proofs.SavedReading.{stopped}
use Rattle.nb_entries.proofs.saved.fields.read_end.Goals as goal

pub returns-in_err-mark : goal.returns-in_err-mark
returns-in_err-mark c = stopped _ _ c.from_residual.ensures.1 c.in_err-mark.ensures

pub returns-in-0 : goal.returns-in-0
returns-in-0 c = goes_on _ _ c.in_ok-mark.ensures (is_0 (omega arith) gives)

pub returns-in_err-end-in-1 : goal.returns-in_err-end-in-1
returns-in_err-end-in-1 c =
    goes_on _ _ c.in_ok-mark.ensures (is_1 (omega arith) (stopped _ _ c.from_residual-in_err-end-in-1.ensures.1 c.in_err-end-in-1.ensures))

pub returns-in_ok-end-in-1 : goal.returns-in_ok-end-in-1
returns-in_ok-end-in-1 c =
    rw c.from.ensures (goes_on _ _ c.in_ok-mark.ensures (is_1 (omega arith) (goes_on _ _ c.in_ok-end-in-1.ensures gives)))

pub returns-in_default : goal.returns-in_default
returns-in_default c = goes_on _ _ c.in_ok-mark.ensures (is_neither (omega arith))
