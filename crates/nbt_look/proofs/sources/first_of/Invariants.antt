use Rattle.nbt_look.proofs.TurnLemmas.{IsBest}
use Rattle.nbt_look.proofs.sources.first_of.Given as goal

abbrev pub invariant-loop-at : goal.invariant-loop-at
invariant-loop-at g l = IsBest l.sources l.at l.first
