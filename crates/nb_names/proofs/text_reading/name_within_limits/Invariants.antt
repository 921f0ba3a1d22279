use Rattle.std.proofs.Common.{◌≡◌, Some, take}
use Rattle.nb_names.specs.declared.text_steps.Stage.TheVariants.{Front}
use Rattle.nb_names.specs.Code.TextSteps.{nothing_taken, steps}
use Rattle.nb_names.specs.Code.Kept.{taken_of}
use Rattle.nb_names.proofs.text_reading.name_within_limits.Given as goal

abbrev pub invariant-loop-byte : goal.invariant-loop-byte
invariant-loop-byte l =
    steps Front nothing_taken (take l.byte-index l.text) ≡ Some (l.stage, taken_of l.taken)
