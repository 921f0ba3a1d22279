use Rattle.nbt_reassembly.proofs.TableTurns.{counting_none, counted_more, counted_all}
use Rattle.nbt_reassembly.proofs.tables.count_lines.Goals as goal

pub loop-after-init : goal.loop-after-init
loop-after-init c = counting_none _

pub loop-after-preserved : goal.loop-after-preserved
loop-after-preserved c = counted_more _ _ _ _ _ c.in-Some.ensures.found c.in-Some.ensures.shorter c.loop-after.invariant

pub returns : goal.returns
returns c = counted_all _ _ _ c.in_default.ensures.none c.loop-after.invariant
