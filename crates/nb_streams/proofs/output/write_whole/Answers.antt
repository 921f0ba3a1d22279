use Rattle.nb_streams.proofs.DeviceLemmas.{wrote_more}
use Rattle.nb_streams.proofs.output.write_whole.Goals as goal

pub loop-written-preserved : goal.loop-written-preserved
loop-written-preserved g c =
    wrote_more _ _ _ _ _ _ _ _ c.in-Ok.count c.loop-written.invariant c.in-Ok.ensures.some.1 c.in-Ok.ensures.written c.in-Ok.ensures.grow
