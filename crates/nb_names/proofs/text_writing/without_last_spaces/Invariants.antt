use Rattle.std.proofs.Common.{◌≡◌, length}
use Rattle.nb_names.specs.NameText.{trimmed}
use Rattle.nb_names.proofs.text_writing.without_last_spaces.Given as goal

abbrev pub invariant-loop-last : goal.invariant-loop-last
invariant-loop-last l = trimmed l.kept ≡ trimmed l.bytes

abbrev pub decreases-loop-last : goal.decreases-loop-last
decreases-loop-last l = length l.kept
