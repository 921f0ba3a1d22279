use Rattle.nb_entries.proofs.Common.{ap, subst, value_of, values_of}
use Rattle.nb_entries.proofs.KeptRuns.RunMapLemmas.{IsGoing, going_first, going_agrees, going_next, going_all}
use Rattle.nb_entries.proofs.cover.runs.Runs.together.Goals as goal

pub loop-run-init : goal.loop-run-init
loop-run-init c =
    rw (← c.other.view_is, c.in_ok-made.ensures, c.into_iter-run-iterator.ensures.into_iter_gives, c.of-run-items.ensures)
    (going_first _ _ c.other.invariant.1 (rw c.other.view_is c.requires))

pub insert-requires : goal.insert-requires
insert-requires c =
    rw (c.start.ensures, c.bytes.ensures)
    (going_agrees _ _ (value_of c.in-Some.run'.now) _ (subst (IsGoing _ _) (ap values_of c.in-Some.ensures.steps) c.loop-run.invariant))

pub loop-run-preserved : goal.loop-run-preserved
loop-run-preserved c =
    going_next _ _ _ (value_of c.in-Some.run'.now) _ (subst (IsGoing _ _) (ap values_of c.in-Some.ensures.steps) c.loop-run.invariant)
    (rw (c.start.ensures, c.bytes.ensures) at c.in_ok-insert.ensures.ok)

pub returns : goal.returns
returns c = going_all _ _ (subst (IsGoing _ _) (ap values_of c.in-None.ensures.steps.0) c.loop-run.invariant)
