use Rattle.nb_table.proofs.Common.{◌≤◌, rules, sym, ap, subst, AllByRecursion, MAX_LENGTH, TableValue, with_contents, IsShort}
use Rattle.nb_table.proofs.Changes.{short_more}
use Rattle.nb_table.proofs.Limits.MergingLemmas.{merged_keeps, others_short, entries_short, joined_is}
use Rattle.nb_table.proofs.table.Table.take_in.Goals as goal

pub merge_entries-requires-clause-own : goal.merge_entries-requires-clause-own
merge_entries-requires-clause-own c k e h =
    let most : c.self.inside.longest ≤ MAX_LENGTH = search rules in
    short_more c.self.inside.longest MAX_LENGTH e most (c.self.invariant.short k e h)

pub merge_entries-requires-clause-other : goal.merge_entries-requires-clause-other
merge_entries-requires-clause-other c =
    let most : c.self.inside.longest ≤ MAX_LENGTH = search rules in
    subst (AllByRecursion (λ e. IsShort MAX_LENGTH e.1)) (sym c.into_iter-others.ensures)
    (entries_short MAX_LENGTH c.other.inside.entries (λ k e h.
    short_more c.self.inside.longest MAX_LENGTH e most (others_short _ c.args.self.now _ c.args.other c.self.view_is c.other.view_is c.in_ok-fits.ensures.fits k e h)))

pub invariant_of-self-2 : goal.invariant_of-self-2
invariant_of-self-2 c =
    let joined = joined_is c.self.inside.entries c.other.inside.entries c.merge_entries.new.entries _ c.into_iter-others.ensures c.in_ok-merge_entries.ensures.joined in
    merged_keeps _ c.args.self.now c.args.other.contents c.merge_entries.new.entries c.self.view_is c.self.invariant (rw (← c.other.view_is) c.other.invariant.formed) c.in_ok-fits.ensures.fits (rw (← c.self.view_is, ← c.other.view_is) joined)

pub returns-clause-joined : goal.returns-clause-joined
returns-clause-joined c =
    let was : TableValue = record { contents = c.self.inside.entries; limits = record { keys = c.self.inside.keys; per_source = c.self.inside.per_source; longest = c.self.inside.longest } } in
    rw (← c.self.view_is, ← c.other.view_is) (ap (with_contents was) (joined_is c.self.inside.entries c.other.inside.entries c.merge_entries.new.entries _ c.into_iter-others.ensures c.in_ok-merge_entries.ensures.joined))
