use Rattle.std.proofs.Common.{take}
use Rattle.nb_names.specs.Code.Kept.{AreEnds}
use Rattle.nb_names.proofs.length_byte.find_ends.Given as goal

abbrev pub invariant-loop-at : goal.invariant-loop-at
invariant-loop-at l = AreEnds l.packet (take l.at l.ends)
