use Rattle.nb_entries.proofs.Common.{[], arith, ap, length, subst, values_of, IsFrom}
use Rattle.nb_entries.proofs.KeptRuns.RunReadLemmas.{lacks_from, starts_late, between_read}
use Rattle.nb_entries.proofs.cover.runs.Runs.between.Goals as goal

pub returns-in_err-run : goal.returns-in_err-run
returns-in_err-run c =
    let left = rw c.in_err-run.ensures.steps.0 at c.from.ensures in
    rw (c.from_residual.ensures, ← c.self.view_is) (lacks_from _ [] c.args.from c.args.to c.args.to c.self.invariant.1 left tt left.before (omega arith) (omega arith))

pub returns-then-from-start : goal.returns-then-from-start
returns-then-from-start c =
    rw (← c.self.view_is) (starts_late _ _ _ c.args.from c.args.to c.self.invariant.1 (subst (IsFrom _ _) (ap values_of c.in_ok-run.ensures.steps) c.from.ensures) (omega arith) (omega arith))

pub slice_bounds-result-end-2 : goal.slice_bounds-result-end-2
slice_bounds-result-end-2 c =
    let far = (subst (IsFrom _ _) (ap values_of c.in_ok-run.ensures.steps) c.from.ensures).after.0 in
    omega (arith, far, ap length c.bytes.ensures)

pub returns : goal.returns
returns c =
    rw (← c.self.view_is, c.start-start.ensures)
    (between_read _ _ _ c.args.from c.args.to _ c.self.invariant.1 (subst (IsFrom _ _) (ap values_of c.in_ok-run.ensures.steps) c.from.ensures) (omega arith) c.bytes.ensures)
