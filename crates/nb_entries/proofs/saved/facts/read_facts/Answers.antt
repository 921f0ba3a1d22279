use Rattle.nb_entries.proofs.Common.{ℕ, ◌≤◌, subst, AllByRecursion, RunValue, run_end, goes_on, gives, covers_formed}
use Rattle.nb_entries.specs.Shared.FoundLemmas.{marks_found, runs_found}
use Rattle.nb_entries.proofs.SavedReading.{stopped}
use Rattle.nb_entries.proofs.saved.facts.read_facts.Goals as goal

pub returns-in_err-kind : goal.returns-in_err-kind
returns-in_err-kind c = stopped _ _ c.from_residual.ensures.1 c.in_err-kind.ensures

pub returns-in_err-source : goal.returns-in_err-source
returns-in_err-source c = goes_on _ _ c.in_ok-kind.ensures (stopped _ _ c.from_residual-in_err-source.ensures.1 c.in_err-source.ensures)

pub returns-in_err-destination : goal.returns-in_err-destination
returns-in_err-destination c =
    goes_on _ _ c.in_ok-kind.ensures (goes_on _ _ c.in_ok-source.ensures (stopped _ _ c.from_residual-in_err-destination.ensures.1 c.in_err-destination.ensures))

pub returns-in_err-marks : goal.returns-in_err-marks
returns-in_err-marks c =
    goes_on _ _ c.in_ok-kind.ensures (goes_on _ _ c.in_ok-source.ensures (goes_on _ _ c.in_ok-destination.ensures (stopped _ _ c.from_residual-in_err-marks.ensures.1 c.in_err-marks.ensures)))

pub returns-in_err-runs : goal.returns-in_err-runs
returns-in_err-runs c =
    goes_on _ _ c.in_ok-kind.ensures (goes_on _ _ c.in_ok-source.ensures (goes_on _ _ c.in_ok-destination.ensures (goes_on _ _ c.in_ok-marks.ensures (rw (← c.most_of.ensures) (stopped _ _ c.from_residual-in_err-runs.ensures.1 c.in_err-runs.ensures)))))

pub invariant_of-facts : goal.invariant_of-facts
invariant_of-facts c =
    let row = runs_found _ _ _ _ _ c.in_ok-runs.ensures in
    covers_formed c.in_ok-runs.runs c.in_ok-marks.marks row.1 (subst (λ (n : ℕ). AllByRecursion (λ (r : RunValue). run_end r ≤ n) c.in_ok-runs.runs) c.most_of.ensures row.2)
    (marks_found _ _ _ _ _ c.in_ok-marks.ensures).1

pub returns : goal.returns
returns c =
    goes_on _ _ c.in_ok-kind.ensures (goes_on _ _ c.in_ok-source.ensures (goes_on _ _ c.in_ok-destination.ensures (goes_on _ _ c.in_ok-marks.ensures (rw (← c.most_of.ensures) (goes_on _ _ c.in_ok-runs.ensures gives)))))
