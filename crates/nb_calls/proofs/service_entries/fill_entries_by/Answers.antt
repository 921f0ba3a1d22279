use Rattle.nb_calls.proofs.Common.{◌≡◌, ◌<◌, ℕ, List, length, refl, subst, arith}
use Rattle.nb_calls.proofs.EntryLemmas.{filled_all, filled_none, filled_none_wanted, filled_some, filling_begins, filling_more}
use Rattle.nb_calls.proofs.ServiceLemmas.{IsCut, item_cut}
use Rattle.nb_calls.proofs.service_entries.fill_entries_by.Goals as goal

pub returns-then-is_empty : goal.returns-then-is_empty
returns-then-is_empty c =
    let none : length c.args.into.now ≡ 0 = grind (arith, c.is_empty.ensures, c.if-is_empty.true) in
    filled_none_wanted c.args.names.now c.args.number c.args.place c.args.into.now none

pub returns-in-Err : goal.returns-in-Err
returns-in-Err c =
    let some : 0 < length c.args.into.now = grind (arith, c.is_empty.ensures, c.if-is_empty.false) in
    let cut : IsCut c.args.names.now c.in-Err.fault = subst (λ (p : List ℕ). IsCut p c.in-Err.fault) c.packet.ensures c.in-Err.ensures.fault in
    rw c.service_refusal.ensures ((omega (arith, some), item_cut c.args.names.now c.args.number c.args.place c.in-Err.fault cut), refl)

pub entries-init : goal.entries-init
entries-init c = (filling_begins c.args.names.now c.args.number c.args.place c.args.into.now, omega arith)

pub entries-preserved : goal.entries-preserved
entries-preserved c =
    let low : c.entries.count < length c.entries.into =
    omega (arith, c.entries-test.true, c.min-room.ensures, c.entries.invariant.0.size) in
    (filling_more _ _ _ _ _ _ _ _ low c.entries.invariant.0 c.in-Ok-entry_at.ensures, omega (arith, c.entries-test.true))

pub returns-in-Err-entry_at : goal.returns-in-Err-entry_at
returns-in-Err-entry_at c =
    rw (← c.min-room.ensures)
    (filled_none _ _ _ _ _ _ _ _ c.entries.invariant.0 _ c.if-count-eq0.true (omega (arith, c.entries-test.true)) c.in-Err-entry_at.ensures)

pub returns-in-Err-2 : goal.returns-in-Err-2
returns-in-Err-2 c =
    rw (← c.min-room.ensures)
    (filled_some _ _ _ _ _ _ _ _ c.entries.invariant.0 _ c.if-count-eq0.false c.entries-test.true (omega (arith, c.min-room.ensures))
    c.in-Err-2.ensures)

pub returns : goal.returns
returns c =
    rw (← c.min-room.ensures)
    (filled_all _ _ _ _ _ _ _ _ c.entries.invariant.0 c.entries.invariant.1 c.entries-test.false (omega (arith, c.min-room.ensures)))
