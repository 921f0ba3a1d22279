use Rattle.nb_table.proofs.Common.{ap, arith, Err, err_from_is_err_and, ill_formed, not-true, not-false}
use Rattle.nb_table.proofs.SavedReading.LoadLemmas.{judged_sound, fault_same, judged_long, judged_crowded, judged_full, keeping_failed, kept_limits, kept_read, kept_saved}
use Rattle.nb_table.proofs.table.loading.load.Goals as goal

pub returns-in_err-form-clause-fault : goal.returns-in_err-form-clause-fault
returns-in_err-form-clause-fault c =
    let p = err_from_is_err_and c.from_residual.result c.from_residual.ensures.1 in rw (p.1, p.2) (ill_formed c.in_err-form.ensures.fault)

pub returns-in_err-form-clause-only : goal.returns-in_err-form-clause-only
returns-in_err-form-clause-only c fault h =
    let p = err_from_is_err_and c.from_residual.result c.from_residual.ensures.1 in
    rw (p.1, p.2) (ap Err (fault_same _ _ _ c.in_err-form.ensures.fault h))

pub returns-in_err-count-clause-fault : goal.returns-in_err-count-clause-fault
returns-in_err-count-clause-fault c =
    let p = err_from_is_err_and c.from_residual-in_err-count.result c.from_residual-in_err-count.ensures.1 in rw (p.1, p.2) (ill_formed c.in_err-count.ensures.fault)

pub returns-in_err-count-clause-only : goal.returns-in_err-count-clause-only
returns-in_err-count-clause-only c fault h =
    let p = err_from_is_err_and c.from_residual-in_err-count.result c.from_residual-in_err-count.ensures.1 in
    rw (p.1, p.2) (ap Err (fault_same _ _ _ c.in_err-count.ensures.fault h))

pub returns-then-not-within-clause-fault : goal.returns-then-not-within-clause-fault
returns-then-not-within-clause-fault c = judged_long _ _ _ _ _ c.in_ok-count.ensures.found (not-true _ c.if-not-within.true)

pub returns-then-not-within-clause-only : goal.returns-then-not-within-clause-only
returns-then-not-within-clause-only c fault h = absurd (judged_sound _ _ _ _ _ _ c.in_ok-count.ensures.found fault h)

pub returns-then-not-within-2-clause-fault : goal.returns-then-not-within-2-clause-fault
returns-then-not-within-2-clause-fault c = judged_crowded _ _ _ _ _ c.in_ok-count.ensures.found (not-false _ c.if-not-within.false) (not-true _ c.if-not-within-2.true)

pub returns-then-not-within-2-clause-only : goal.returns-then-not-within-2-clause-only
returns-then-not-within-2-clause-only c fault h = absurd (judged_sound _ _ _ _ _ _ c.in_ok-count.ensures.found fault h)

pub returns-then-count-keys-clause-fault : goal.returns-then-count-keys-clause-fault
returns-then-count-keys-clause-fault c = judged_full _ _ _ _ _ c.in_ok-count.ensures.found (not-false _ c.if-not-within.false) (not-false _ c.if-not-within-2.false) c.if-count-keys.true

pub returns-then-count-keys-clause-only : goal.returns-then-count-keys-clause-only
returns-then-count-keys-clause-only c fault h = absurd (judged_sound _ _ _ _ _ _ c.in_ok-count.ensures.found fault h)

pub returns-in_err-entries-clause-fault : goal.returns-in_err-entries-clause-fault
returns-in_err-entries-clause-fault c =
    let p = err_from_is_err_and c.from_residual-in_err-entries.result c.from_residual-in_err-entries.ensures.1 in
    rw (p.1, p.2) (keeping_failed c.in_ok-form.form _ _ _ _ _ _ c.in_ok-form.ensures.found c.in_ok-count.ensures.found (not-false _ c.if-not-within.false) (not-false _ c.if-not-within-2.false) (omega arith) c.in_err-entries.ensures.fault)

pub returns-in_err-entries-clause-only : goal.returns-in_err-entries-clause-only
returns-in_err-entries-clause-only c fault h = absurd (judged_sound _ _ _ _ _ _ c.in_ok-count.ensures.found fault h)

pub invariant_of-result : goal.invariant_of-result
invariant_of-result c = kept_limits c.in_ok-form.form _ (record { keys = c.args.keys; per_source = c.args.per_source; longest = c.args.longest }) _ _ _ _ c.in_ok-form.ensures.found c.in_ok-count.ensures.found (not-false _ c.if-not-within.false) (not-false _ c.if-not-within-2.false) (omega arith) c.in_ok-entries.ensures.kept

pub returns-clause-found : goal.returns-clause-found
returns-clause-found c = kept_read c.in_ok-form.form _ _ _ _ _ _ _ c.in_ok-form.ensures.found c.in_ok-count.ensures.found c.in_ok-entries.ensures.kept

pub returns-clause-bytes : goal.returns-clause-bytes
returns-clause-bytes c = kept_saved c.in_ok-form.form _ _ _ _ _ _ _ c.in_ok-form.ensures.found c.in_ok-count.ensures.found c.in_ok-entries.ensures.kept

pub returns-clause-only : goal.returns-clause-only
returns-clause-only c fault h = absurd (judged_sound _ _ _ _ _ _ c.in_ok-count.ensures.found fault h)
