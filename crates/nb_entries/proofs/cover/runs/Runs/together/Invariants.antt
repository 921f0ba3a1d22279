use Rattle.nb_entries.proofs.Common.{union, values_of}
use Rattle.nb_entries.proofs.KeptRuns.RunMapLemmas.{IsGoing}
use Rattle.nb_entries.proofs.cover.runs.Runs.together.Given as goal

abbrev pub invariant-loop-run : goal.invariant-loop-run
invariant-loop-run l = IsGoing (union l.self l.other) l.made (values_of l.run-iterator)
