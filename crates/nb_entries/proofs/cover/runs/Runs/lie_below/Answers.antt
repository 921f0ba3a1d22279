use Rattle.nb_entries.proofs.Common.{ap, subst, refl, values_of, IsFrom}
use Rattle.nb_entries.proofs.KeptRuns.RunReadLemmas.{ends_below, not_below}
use Rattle.nb_entries.proofs.cover.runs.Runs.lie_below.Goals as goal

pub returns-in-Some : goal.returns-in-Some
returns-in-Some c =
    rw (← c.self.view_is) (
      λ h. absurd (cc),
      λ h. absurd (not_below _ _ _ c.args.end c.self.invariant.1 (subst (IsFrom _ _) (ap values_of c.in-Some.ensures.steps) c.from.ensures) h),
    )

pub returns-in-None : goal.returns-in-None
returns-in-None c =
    rw (← c.self.view_is) (λ _. ends_below _ c.args.end (subst (IsFrom _ _) (ap values_of c.in-None.ensures.steps.0) c.from.ensures), λ _. refl)
