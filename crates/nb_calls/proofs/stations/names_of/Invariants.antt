use Rattle.nb_calls.proofs.Common.{length}
use Rattle.nb_calls.proofs.StationNameLemmas.{IsNaming}
use Rattle.nb_calls.proofs.stations.names_of.Given as goal

abbrev pub invariant-loop-text : goal.invariant-loop-text
invariant-loop-text l = IsNaming l.texts l.rest l.place l.names

abbrev pub decreases-loop-text : goal.decreases-loop-text
decreases-loop-text l = length l.rest
