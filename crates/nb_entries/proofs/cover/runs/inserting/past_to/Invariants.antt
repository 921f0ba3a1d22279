use Rattle.nb_entries.proofs.Common.{take, values_of, StartTo}
use Rattle.nb_entries.proofs.cover.runs.inserting.past_to.Given as goal

abbrev pub invariant-loop-index : goal.invariant-loop-index
invariant-loop-index l = StartTo l.place (take l.index (values_of l.runs))
