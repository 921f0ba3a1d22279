use Rattle.nb_table.proofs.Common.{◌≡◌, length, taken_back}
use Rattle.nb_table.proofs.table.merging.take_back.Given as goal

abbrev pub invariant-loop-key : goal.invariant-loop-key
invariant-loop-key l =
    taken_back l.entries l.changes.items
    ≡ taken_back l.fn.entries l.fn.changes.items

abbrev pub decreases-loop-key : goal.decreases-loop-key
decreases-loop-key l = length l.changes.items
