use Rattle.nb_entries.proofs.Common.{◌∷◌, arith, sym, ap, subst, both_ways, value_of, values_of, run_at}
use Rattle.nb_entries.proofs.KeptRuns.RunReadLemmas.{Held, held_first, held_next, past_agree}
use Rattle.nb_entries.proofs.KeptRuns.RunMapLemmas.{agree_from, from_agree}
use Rattle.nb_entries.proofs.cover.runs.Runs.agree.Goals as goal

pub loop-run-init : goal.loop-run-init
loop-run-init c =
    rw (← c.self.view_is, c.into_iter-run-iterator.ensures.into_iter_gives)
    (held_first _ _ _ _ c.self.invariant.1 c.from-run-items.ensures (from_agree _ c.args.start c.args.bytes.now) (agree_from _ c.args.start c.args.bytes.now))

pub agrees-requires : goal.agrees-requires
agrees-requires c =
    let left = subst (Held _ _) (ap values_of c.in-Some.ensures.steps) c.loop-run.invariant in
    record { before = omega arith; after = left.from.0 }

pub returns-then-start-end : goal.returns-then-start-end
returns-then-start-end c =
    let left = subst (Held _ _) (ap values_of c.in-Some.ensures.steps) c.loop-run.invariant in
    sym (left.whole (past_agree (run_at c.args.start c.args.bytes.now) (value_of c.in-Some.run'.now ∷ values_of c.next.new.self) left.apart (omega arith)))

pub returns-then-not-agrees : goal.returns-then-not-agrees
returns-then-not-agrees c =
    let left = subst (Held _ _) (ap values_of c.in-Some.ensures.steps) c.loop-run.invariant in
    both_ways _ _ (λ h. absurd (cc)) (λ t. c.if-not-agrees.ensures.1 (left.back t).0)

pub loop-run-preserved : goal.loop-run-preserved
loop-run-preserved c =
    held_next _ _ _ _ (subst (Held _ _) (ap values_of c.in-Some.ensures.steps) c.loop-run.invariant) (c.agrees.ensures.0 c.if-not-agrees.false)

pub returns : goal.returns
returns c = sym ((subst (Held _ _) (ap values_of c.in-None.ensures.steps.0) c.loop-run.invariant).whole tt)
