use Rattle.nbt_reassembly.proofs.Common.{map, take, AddsEach}
use Rattle.nbt_reassembly.proofs.replay.names_of.Given as goal

abbrev pub invariant-loop-word : goal.invariant-loop-word
invariant-loop-word l = AddsEach (map (λ w. w.now) (take l.word-index l.words)) l.names
