use Rattle.nbt_look.specs.Printing.{AreUnread}
use Rattle.nbt_look.proofs.looking.sources_of.Given as goal

abbrev pub invariant-loop-title : goal.invariant-loop-title
invariant-loop-title g l = AreUnread l.sources.items
