use Rattle.nb_table.proofs.Common.{◌+◌, ◌++◌, length, Passes}
use Rattle.nb_table.proofs.saved.put.Given as goal

abbrev pub invariant-parts : goal.invariant-parts
invariant-parts g l = Passes g.W.Write.contents l.fn.writer l.writer (l.fn.part.items ++ l.bytes) (l.part.items ++ l.rest)

abbrev pub decreases-parts : goal.decreases-parts
decreases-parts g l = length l.rest + length l.part.items
