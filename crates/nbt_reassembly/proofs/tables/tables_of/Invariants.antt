use Rattle.nbt_reassembly.proofs.Common.{length}
use Rattle.nbt_reassembly.proofs.TableTurns.{IsReadingTables}
use Rattle.nbt_reassembly.proofs.tables.tables_of.Given as goal

abbrev pub invariant-loop-line : goal.invariant-loop-line
invariant-loop-line l = IsReadingTables l.fn.capacity l.text l.rest l.number l.tables.items

abbrev pub decreases-loop-line : goal.decreases-loop-line
decreases-loop-line l = length l.rest
