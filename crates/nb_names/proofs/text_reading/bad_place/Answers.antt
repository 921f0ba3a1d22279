use Rattle.std.proofs.Common.{refl, sym, ◌∙◌}
use Rattle.nb_names.specs.Code.TextSteps.{nothing_taken, takes}
use Rattle.nb_names.proofs.FrontLemmas.{steps_turn, bad_inside, bad_at_end, formed_at_end, not_ended}
use Rattle.nb_names.proofs.text_reading.bad_place.Goals as goal

pub loop-place-init : goal.loop-place-init
loop-place-init c = (nothing_taken, refl)

pub returns-in-None : goal.returns-in-None
returns-in-None c =
    bad_inside c.args.text.now c.loop-place.place c.loop-place.stage c.loop-place.invariant.0 c.loop-place-test.true c.loop-place.invariant.1 (sym c.step_of.ensures ∙ c.in-None.is)

pub loop-place-preserved : goal.loop-place-preserved
loop-place-preserved c =
    let t = c.loop-place.invariant.0 in
    (takes t c.in-Some.field-0-1, steps_turn c.args.text.now c.loop-place.place c.loop-place.stage t (c.in-Some.next, c.in-Some.field-0-1) c.loop-place-test.true c.loop-place.invariant.1 (sym c.in-Some.ensures))

pub returns-in-Closed : goal.returns-in-Closed
returns-in-Closed c =
    formed_at_end c.args.text.now c.loop-place.place c.loop-place.stage c.loop-place.invariant.0 c.loop-place-test.false c.loop-place.invariant.1 c.in-Closed.is

pub returns-in_default : goal.returns-in_default
returns-in_default c =
    let t = c.loop-place.invariant.0 in
    bad_at_end c.args.text.now c.loop-place.place c.loop-place.stage t c.loop-place-test.false c.loop-place.invariant.1 (not_ended c.loop-place.stage t c.in_default.not-Closed c.in_default.not-Label)
