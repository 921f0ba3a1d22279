use Rattle.nb_entries.proofs.Common.{◌≡◌, bytes_agree, places_of, values_of}
use Rattle.nb_entries.proofs.KeptRuns.RunMapLemmas.{agree_at}
use Rattle.nb_entries.proofs.cover.runs.Runs.agree_all.Given as goal

abbrev pub invariant-loop-run : goal.invariant-loop-run
invariant-loop-run l = agree_at l.self (places_of (values_of l.run-iterator)) ≡ bytes_agree l.self l.other
