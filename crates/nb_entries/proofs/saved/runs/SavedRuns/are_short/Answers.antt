use Rattle.nb_entries.proofs.Common.{sym, ◌∙◌, map_below}
use Rattle.nb_entries.proofs.saved.runs.SavedRuns.are_short.Goals as goal

pub returns : goal.returns
returns c = rw (← c.self.view_is) (c.row_is_short.ensures ∙ sym (map_below c.args.limit _ c.self.invariant.1))
