use Rattle.std.proofs.Common.{◌∙◌}
use Rattle.nbt_look.proofs.NamingLemmas.{set_named}
use Rattle.nbt_look.proofs.hearing.has_conflict.Goals as goal

pub returns : goal.returns
returns c = c.sets_conflict.ensures ∙ set_named c.args.flags.now
