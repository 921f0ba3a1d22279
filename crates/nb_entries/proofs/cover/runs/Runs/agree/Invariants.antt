use Rattle.nb_entries.proofs.Common.{◌≡◌, true, placed, values_of, run_at}
use Rattle.nb_entries.proofs.KeptRuns.RunReadLemmas.{Held}
use Rattle.nb_entries.proofs.KeptRuns.RunMapLemmas.{agree_at}
use Rattle.nb_entries.proofs.cover.runs.Runs.agree.Given as goal

abbrev pub invariant-loop-run : goal.invariant-loop-run
invariant-loop-run l = Held (run_at l.start l.bytes) (agree_at l.self (placed l.start l.bytes) ≡ true) (values_of l.run-iterator)
