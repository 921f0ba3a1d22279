use Rattle.nb_calls.proofs.Common.{ℕ, ◌<◌, ◌≤◌, List, length, refl, subst, no_room, refused, takes_not}
use Rattle.std.proofs.lemmas.Result.{err_from_is_err_and}
use Rattle.nb_calls.specs.Absorbing.{not_read, read}
use Rattle.nb_calls.proofs.AbsorbLemmas.{joins}
use Rattle.nb_calls.proofs.absorbing.absorb_saved.Goals as goal

pub returns-in_err-other : goal.returns-in_err-other
returns-in_err-other c =
    let p = err_from_is_err_and c.from_residual.result c.from_residual.ensures.1 in
    rw (p.1, p.2) (not_read _ (rw c.settings-its.ensures at c.in_err-other.ensures) refl)

pub returns-in_err-bytes : goal.returns-in_err-bytes
returns-in_err-bytes c =
    let p = err_from_is_err_and c.from_residual-in_err-bytes.result c.from_residual-in_err-bytes.ensures.1 in
    rw (p.1, p.2) (read _ _ (rw c.settings-its.ensures at c.in_ok-other.ensures) (refused _ c.in_err-bytes.ensures refl))

pub returns-then-room-as_slice : goal.returns-then-room-as_slice
returns-then-room-as_slice c =
    read _ _ (rw c.settings-its.ensures at c.in_ok-other.ensures) (no_room _ c.in_ok-bytes.ensures
    (subst (λ (bytes : List ℕ). c.args.room < length bytes) c.as_slice.ensures c.if-room-as_slice.true) refl)

pub returns-in-Err : goal.returns-in-Err
returns-in-Err c =
    rw c.table_refusal.ensures (read _ _ (rw c.settings-its.ensures at c.in_ok-other.ensures)
    (refused _ (takes_not _ c.in-Err.ensures.fault) c.in-Err.ensures.err))

pub returns : goal.returns
returns c =
    let absorbed = c.in-Ok.ensures.absorbed in
    read _ _ (rw c.settings-its.ensures at c.in_ok-other.ensures) (joins _ _ _ _ _ _ _ c.in_ok-bytes.ensures absorbed
    (λ said p. c.a_preview_is_what_is_handed_over.ensures _ _ _ _ said _ p absorbed)
    (subst (λ (bytes : List ℕ). length bytes ≤ c.args.room) c.as_slice.ensures c.if-room-as_slice.false))
