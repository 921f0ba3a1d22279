use Rattle.nb_capture.specs.LineReading.{nothing_within}
use Rattle.nb_capture.proofs.LineLemmas.Ending.{nothing_lost}
use Rattle.nb_capture.proofs.laws.what_came_is_handed_out_or_held.Goals as goal

pub returns : goal.returns
returns c most handed got room calls = nothing_lost (nothing_within most) room handed got calls
