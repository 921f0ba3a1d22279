use Rattle.nb_entries.proofs.Common.{arith, goes_on, gives, is_0, is_1, is_neither}
use Rattle.nb_entries.proofs.SavedReading.{stopped}
use Rattle.nb_entries.proofs.saved.facts.read_entry.Goals as goal

pub returns-in_err-state : goal.returns-in_err-state
returns-in_err-state c = stopped _ _ c.from_residual.ensures.1 c.in_err-state.ensures

pub returns-in-0 : goal.returns-in-0
returns-in-0 c = goes_on _ _ c.in_ok-state.ensures (is_0 (omega arith) gives)

pub returns-in_err-facts-in-1 : goal.returns-in_err-facts-in-1
returns-in_err-facts-in-1 c =
    goes_on _ _ c.in_ok-state.ensures (is_1 (omega arith) (stopped _ _ c.from_residual-in_err-facts-in-1.ensures.1 c.in_err-facts-in-1.ensures))

pub returns-in_ok-facts-in-1 : goal.returns-in_ok-facts-in-1
returns-in_ok-facts-in-1 c = goes_on _ _ c.in_ok-state.ensures (is_1 (omega arith) (goes_on _ _ c.in_ok-facts-in-1.ensures gives))

pub returns-in_default : goal.returns-in_default
returns-in_default c = goes_on _ _ c.in_ok-state.ensures (is_neither (omega arith))
