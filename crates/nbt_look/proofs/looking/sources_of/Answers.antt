use Rattle.nbt_look.proofs.PrintingLemmas.{unread_more, unread_none}
use Rattle.nbt_look.proofs.looking.sources_of.Goals as goal

pub loop-title-init : goal.loop-title-init
loop-title-init g c = unread_none _ c.new-sources.ensures.items

pub loop-title-preserved : goal.loop-title-preserved
loop-title-preserved g c =
    unread_more _ c.push.new.self.items c.new.result _ c.loop-title.invariant c.in-Ok.ensures.items c.new.ensures
