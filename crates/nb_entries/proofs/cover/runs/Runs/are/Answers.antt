use Rattle.nb_entries.proofs.Common.{sym, ap, ◌∙◌, map_of_runs, values_of, one_row}
use Rattle.nb_entries.proofs.cover.runs.Runs.are.Goals as goal

pub loop-run-init : goal.loop-run-init
loop-run-init c =
    let own = ap values_of c.of-own.ensures in
    let other = ap values_of (c.into_iter-run-iterator.ensures.into_iter_gives ∙ c.of-run-items.ensures) in
    rw (← c.self.view_is, ← c.other.view_is)
    (λ h. ap map_of_runs (sym own ∙ h ∙ other), λ e. own ∙ one_row _ _ c.self.invariant.1 c.other.invariant.1 e ∙ sym other)
