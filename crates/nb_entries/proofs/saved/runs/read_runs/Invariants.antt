use Rattle.nb_entries.proofs.SavedReading.{RowSoFar}
use Rattle.nb_entries.proofs.saved.runs.read_runs.Given as goal

abbrev pub invariant-loop : goal.invariant-loop
invariant-loop l = RowSoFar l.input l.most l.count l.first l.counter l.least l.here
