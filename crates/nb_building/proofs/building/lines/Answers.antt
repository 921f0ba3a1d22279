use Rattle.nb_building.proofs.BuiltLemmas.{lines_more}
use Rattle.nb_building.proofs.building.lines.Goals as goal

pub loop-payload-preserved : goal.loop-payload-preserved
loop-payload-preserved c =
    lines_more c.args.port c.args.payloads.now c.loop-payload.payload-index c.payload-item.result _ _ _ c.loop-payload-test.true
    c.payload-item.is c.loop-payload.invariant c.in_ok-push_line.ensures
