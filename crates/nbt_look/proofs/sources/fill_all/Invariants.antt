use Rattle.nbt_look.proofs.SourcesLemmas.{IsFilling}
use Rattle.nbt_look.proofs.sources.fill_all.Given as goal

abbrev pub invariant-loop-source : goal.invariant-loop-source
invariant-loop-source g l = IsFilling l.fn.sources l.sources l.source-index
