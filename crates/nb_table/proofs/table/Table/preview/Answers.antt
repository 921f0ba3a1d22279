use Rattle.nb_table.proofs.Common.{◌≤◌, rules, MAX_LENGTH}
use Rattle.nb_table.proofs.Changes.{short_more}
use Rattle.nb_table.proofs.Limits.MergingLemmas.{others_short}
use Rattle.nb_table.proofs.table.Table.preview.Goals as goal

pub preview_entries-requires-clause-own : goal.preview_entries-requires-clause-own
preview_entries-requires-clause-own c k e h =
    let most : c.self.inside.longest ≤ MAX_LENGTH = search rules in
    short_more c.self.inside.longest MAX_LENGTH e most (c.self.invariant.short k e h)

pub preview_entries-requires-clause-other : goal.preview_entries-requires-clause-other
preview_entries-requires-clause-other c k e h =
    let most : c.self.inside.longest ≤ MAX_LENGTH = search rules in
    short_more c.self.inside.longest MAX_LENGTH e most (others_short _ c.args.self.now _ c.args.other.now c.self.view_is c.other.view_is c.in_ok-fits.ensures.fits k e h)
