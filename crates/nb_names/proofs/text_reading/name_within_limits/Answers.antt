use Rattle.std.proofs.Common.{◌≡◌, ◌+◌, Some, sym, ◌∙◌, ap}
use Rattle.nb_names.specs.declared.text_steps.Stage.{Stage}
use Rattle.nb_names.specs.declared.text_steps.Stage.TheVariants.{Front}
use Rattle.nb_names.specs.Code.TextSteps.{Taken, takes, parts_of, finish}
use Rattle.nb_names.specs.Code.Kept.{taken_of}
use Rattle.nb_names.proofs.FrontLemmas.{steps_turn, bad_inside, bad_at_end, not_ended}
use Rattle.nb_names.proofs.PartsLemmas.{no_name_unformed, no_name_past_limits, no_name_past_label, text_at_end}
use Rattle.nb_names.proofs.text_reading.name_within_limits.Goals as goal

pub loop-byte-init : goal.loop-byte-init
loop-byte-init c = ap (λ (t : Taken). Some (Front, t)) (sym c.new-taken.ensures)

pub returns-in_err-next-clause-none : goal.returns-in_err-next-clause-none
returns-in_err-next-clause-none c =
    let bad = bad_inside c.args.text.now c.loop-byte.byte-index c.loop-byte.stage (taken_of c.loop-byte.taken) c.loop-byte-test.true c.loop-byte.invariant (sym c.step_of.ensures ∙ c.in_err-next.was) in
    rw c.from_residual.ensures (no_name_unformed c.args.text.now bad.0)

pub returns-in_err-take-clause-none : goal.returns-in_err-take-clause-none
returns-in_err-take-clause-none c =
    let turned = steps_turn c.args.text.now c.loop-byte.byte-index c.loop-byte.stage (taken_of c.loop-byte.taken) (c.in_ok-next.next, c.in_ok-next.added) c.loop-byte-test.true c.loop-byte.invariant (sym c.in_ok-next.ensures) in
    rw c.from_residual-in_err-take.ensures
    (no_name_past_limits c.args.text.now (c.loop-byte.byte-index + 1) c.in_ok-next.next (takes (taken_of c.loop-byte.taken) c.in_ok-next.added) turned c.in_err-take.ensures.none)

pub loop-byte-preserved : goal.loop-byte-preserved
loop-byte-preserved c =
    let turned = steps_turn c.args.text.now c.loop-byte.byte-index c.loop-byte.stage (taken_of c.loop-byte.taken) (c.in_ok-next.next, c.in_ok-next.added) c.loop-byte-test.true c.loop-byte.invariant (sym c.in_ok-next.ensures) in
    turned ∙ ap (λ (t : Taken). Some (c.in_ok-next.next, t)) (sym c.in_ok-take.ensures.taken)

pub returns-in_err-take-in-Label-clause-none : goal.returns-in_err-take-in-Label-clause-none
returns-in_err-take-in-Label-clause-none c =
    let t = taken_of c.loop-byte.taken in
    rw c.from_residual-in_err-take-in-Label.ensures
    (no_name_past_label c.args.text.now c.loop-byte.byte-index t c.loop-byte-test.false (c.loop-byte.invariant ∙ ap (λ (s : Stage). Some (s, t)) c.in-Label.is) c.in_err-take-in-Label.ensures.none)

pub returns-in-Closed-clause-found : goal.returns-in-Closed-clause-found
returns-in-Closed-clause-found c =
    let t = taken_of c.loop-byte.taken in
    text_at_end c.args.text.now c.loop-byte.byte-index c.loop-byte.stage t (parts_of t) c.into_name.result c.loop-byte-test.false c.loop-byte.invariant (ap (λ (s : Stage). finish s t) c.in-Closed.is) c.into_name.ensures.limits c.into_name.ensures.name

pub returns-in_ok-take-in-Label-clause-found : goal.returns-in_ok-take-in-Label-clause-found
returns-in_ok-take-in-Label-clause-found c =
    let t = taken_of c.loop-byte.taken in
    let new = taken_of c.take-in-Label.new.self in
    let done : finish c.loop-byte.stage t ≡ Some (parts_of new) =
    ap (λ (s : Stage). finish s t) c.in-Label.is ∙ ap (λ (t : Taken). Some (parts_of t)) (sym c.in_ok-take-in-Label.ensures.taken) in
    text_at_end c.args.text.now c.loop-byte.byte-index c.loop-byte.stage t (parts_of new) c.into_name-in-Label.result c.loop-byte-test.false c.loop-byte.invariant done c.into_name-in-Label.ensures.limits c.into_name-in-Label.ensures.name

pub returns-in_default : goal.returns-in_default
returns-in_default c =
    let t = taken_of c.loop-byte.taken in
    let bad = bad_at_end c.args.text.now c.loop-byte.byte-index c.loop-byte.stage t c.loop-byte-test.false c.loop-byte.invariant (not_ended c.loop-byte.stage t c.in_default.not-Closed c.in_default.not-Label) in
    record { found = tt; name = tt; none = no_name_unformed c.args.text.now bad.0 }
