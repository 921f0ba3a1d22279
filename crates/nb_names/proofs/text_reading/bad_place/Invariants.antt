use Rattle.std.proofs.Common.{◌≡◌, Some, take}
use Rattle.nb_names.specs.declared.text_steps.Stage.TheVariants.{Front}
use Rattle.nb_names.specs.Code.TextSteps.{Taken, nothing_taken, steps}
use Rattle.nb_names.proofs.text_reading.bad_place.Given as goal

abbrev pub invariant-loop-place : goal.invariant-loop-place
invariant-loop-place l =
    (t : Taken) × (steps Front nothing_taken (take l.place l.text) ≡ Some (l.stage, t))
