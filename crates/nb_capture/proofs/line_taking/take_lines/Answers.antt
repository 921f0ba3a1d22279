use Rattle.nb_capture.proofs.Common.{◌+◌, ◌∙◌, arith, refl, Some, None, Ok, Err, err_from_is_err_and, of_result, bytes_less}
use Rattle.nb_capture.proofs.LineTakingLemmas.{fault_alike, line_alike, first_turn, next_turn, ends_at_line, ends_too_long, ends_unread, ends_unheld, ends_at_end}
use Rattle.nb_capture.proofs.line_taking.take_lines.Goals as goal

pub lines-init : goal.lines-init
lines-init g c = record { taking = first_turn _ c.args.most _ _ c.within-room.result _ c.within-room.ensures; same = refl }

pub overflow_add-number : goal.overflow_add-number
overflow_add-number g c =
    let r = of_result _ _ _ _ _ _ Ok c.next_from.result _ (Some c.in-Ok-Some.line) c.in-Ok-Some.is c.in-Ok-Some.field-0-is c.next_from.follows.holds-at-none in
    let s = c.lines.invariant.taking in
    omega (arith, s.within, s.handed.limit, r.within, bytes_less _ _ _ _ _ _ _ r)

pub lines-smaller : goal.lines-smaller
lines-smaller g c =
    let r = of_result _ _ _ _ _ _ Ok c.next_from.result _ (Some c.in-Ok-Some.line) c.in-Ok-Some.is c.in-Ok-Some.field-0-is c.next_from.follows.holds-at-none in
    omega (arith, r.limit, r.within, bytes_less _ _ _ _ _ _ _ r)

pub lines-preserved : goal.lines-preserved
lines-preserved g c =
    let e = c.in_ok-take_line-in-Ok-Some in
    let i = c.lines.invariant in
    let line = c.in-Ok-Some.line.now in
    let r = of_result _ _ _ _ _ _ Ok c.next_from.result _ (Some c.in-Ok-Some.line) c.in-Ok-Some.is c.in-Ok-Some.field-0-is c.next_from.follows.holds-at-none in
    let takes = line_alike g.T.LineTaker.takes _ _ (c.lines.number + 1) line _ _ i.same e.ensures.taken in
    record {
      taking = next_turn _ _ _ _ _ _ _ _ _ _ line c.lines.number _ _ _ i.taking r takes;
      same = e.ensures.beside ∙ i.same;
    }

pub returns-in_err-take_line-in-Ok-Some-clause-taken : goal.returns-in_err-take_line-in-Ok-Some-clause-taken
returns-in_err-take_line-in-Ok-Some-clause-taken g c =
    let p = err_from_is_err_and c.from_residual.result c.from_residual.ensures.1 in
    let i = c.lines.invariant in
    let line = c.in-Ok-Some.line.now in
    let r = of_result _ _ _ _ _ _ Ok c.next_from.result _ (Some c.in-Ok-Some.line) c.in-Ok-Some.is c.in-Ok-Some.field-0-is c.next_from.follows.holds-at-none in
    let fails = fault_alike g.T.LineTaker.fails _ _ _ (c.lines.number + 1) line _ _ _ i.same c.in_err-take_line-in-Ok-Some.ensures.fault in
    rw (p.1, p.2) (ends_at_line _ _ _ _ _ _ _ _ _ _ _ _ line c.lines.number _ _ _ _ i.taking r fails)

pub returns-in_err-take_line-in-Ok-Some-clause-beside : goal.returns-in_err-take_line-in-Ok-Some-clause-beside
returns-in_err-take_line-in-Ok-Some-clause-beside g c = c.in_err-take_line-in-Ok-Some.ensures.beside ∙ c.lines.invariant.same

pub returns-in-Ok-None-clause-taken : goal.returns-in-Ok-None-clause-taken
returns-in-Ok-None-clause-taken g c =
    ends_at_end _ (g.T.LineTaker.fails (g.T.LineTaker.beside c.args.taker.now)) g.T.Fault.From.from_gives _ _ _ _ _ _ _ _ _ c.lines.number _ _ c.lines.invariant.taking
    (of_result _ _ _ _ _ _ Ok c.next_from.result _ None c.in-Ok-None.is c.in-Ok-None.field-0-is c.next_from.follows.holds-at-none)

pub returns-in-Err-TooLong-clause-taken : goal.returns-in-Err-TooLong-clause-taken
returns-in-Err-TooLong-clause-taken g c =
    ends_too_long _ (g.T.LineTaker.fails (g.T.LineTaker.beside c.args.taker.now)) g.T.Fault.From.from_gives _ _ _ _ _ _ _ _ _ c.lines.number _ _ _ c.lines.invariant.taking
    (of_result _ _ _ _ _ _ Err c.next_from.result _ _ c.in-Err-TooLong.is c.in-Err-TooLong.field-0-is c.next_from.follows.holds-at-none) c.from.ensures

pub returns-in-Err-Read-clause-taken : goal.returns-in-Err-Read-clause-taken
returns-in-Err-Read-clause-taken g c =
    ends_unread _ (g.T.LineTaker.fails (g.T.LineTaker.beside c.args.taker.now)) g.T.Fault.From.from_gives _ _ _ _ _ _ _ _ _ c.lines.number _ _ _ c.lines.invariant.taking
    (of_result _ _ _ _ _ _ Err c.next_from.result _ _ c.in-Err-Read.is c.in-Err-Read.field-0-is c.next_from.follows.holds-at-none) c.from-in-Err-Read.ensures

pub returns-in-Err-NoMemory-clause-taken : goal.returns-in-Err-NoMemory-clause-taken
returns-in-Err-NoMemory-clause-taken g c =
    ends_unheld _ (g.T.LineTaker.fails (g.T.LineTaker.beside c.args.taker.now)) g.T.Fault.From.from_gives _ _ _ _ _ _ _ _ _ c.lines.number _ _ _ c.lines.invariant.taking
    (of_result _ _ _ _ _ _ Err c.next_from.result _ _ c.in-Err-NoMemory.is c.in-Err-NoMemory.field-0-is c.next_from.follows.holds-at-none) c.from-in-Err-NoMemory.ensures
