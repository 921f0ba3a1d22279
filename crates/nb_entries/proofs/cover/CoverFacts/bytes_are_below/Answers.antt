use Rattle.nb_entries.proofs.Common.{same_from_decides, bytes_below_decides}
use Rattle.nb_entries.proofs.cover.CoverFacts.bytes_are_below.Goals as goal

pub returns : goal.returns
returns c = rw (← c.self.view_is) (same_from_decides c.lie_below.result _ c.lie_below.ensures (bytes_below_decides c.args.place c.self.inside.bytes))
