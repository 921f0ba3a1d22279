use Rattle.nbt_reassembly.proofs.Common.{length}
use Rattle.nbt_reassembly.proofs.TableTurns.{IsCounting}
use Rattle.nbt_reassembly.proofs.tables.count_lines.Given as goal

abbrev pub invariant-loop-after : goal.invariant-loop-after
invariant-loop-after l = IsCounting l.text l.rest l.count

abbrev pub decreases-loop-after : goal.decreases-loop-after
decreases-loop-after l = length l.rest
