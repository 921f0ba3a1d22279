use Rattle.nb_table.proofs.Common.{◌≤◌, rules, sym, ◌∙◌, ap, ap₂, subst, AllByRecursion, MAX_LENGTH, TableValue, with_contents, IsShort, newly_handed, handed}
use Rattle.nb_table.proofs.Changes.{short_more}
use Rattle.nb_table.proofs.Limits.MergingLemmas.{merged_keeps, others_short, entries_short, joined_is, handed_all}
use Rattle.nb_table.proofs.table.Table.join_lent.Goals as goal

pub merge_entries-requires-clause-own : goal.merge_entries-requires-clause-own
merge_entries-requires-clause-own c k e h =
    let most : c.self.inside.longest ≤ MAX_LENGTH = search rules in
    short_more c.self.inside.longest MAX_LENGTH e most (c.self.invariant.short k e h)

pub merge_entries-requires-clause-other : goal.merge_entries-requires-clause-other
merge_entries-requires-clause-other c =
    let most : c.self.inside.longest ≤ MAX_LENGTH = search rules in
    subst (AllByRecursion (λ e. IsShort MAX_LENGTH e.1)) (sym c.iter-others.ensures)
    (entries_short MAX_LENGTH c.other.inside.entries (λ k e h.
    short_more c.self.inside.longest MAX_LENGTH e most (others_short _ c.args.self.now _ c.args.other.now c.self.view_is c.other.view_is c.in_ok-fits.ensures.fits k e h)))

pub invariant_of-self-2 : goal.invariant_of-self-2
invariant_of-self-2 c =
    let joined = joined_is c.self.inside.entries c.other.inside.entries c.merge_entries.new.entries _ c.iter-others.ensures c.in_ok-merge_entries.ensures.joined in
    merged_keeps _ c.args.self.now c.args.other.now.contents c.merge_entries.new.entries c.self.view_is c.self.invariant (rw (← c.other.view_is) c.other.invariant.formed) c.in_ok-fits.ensures.fits (rw (← c.self.view_is, ← c.other.view_is) joined)

pub returns-clause-joined : goal.returns-clause-joined
returns-clause-joined c =
    let was : TableValue = record { contents = c.self.inside.entries; limits = record { keys = c.self.inside.keys; per_source = c.self.inside.per_source; longest = c.self.inside.longest } } in
    rw (← c.self.view_is, ← c.other.view_is) (ap (with_contents was) (joined_is c.self.inside.entries c.other.inside.entries c.merge_entries.new.entries _ c.iter-others.ensures c.in_ok-merge_entries.ensures.joined))

pub returns-clause-formed : goal.returns-clause-formed
returns-clause-formed c = (invariant_of-self-2 c).formed

pub returns-clause-handed : goal.returns-clause-handed
returns-clause-handed c over =
    let t = c.self.inside.entries in
    let o = c.other.inside.entries in
    let joined = joined_is t o c.merge_entries.new.entries _ c.iter-others.ensures c.in_ok-merge_entries.ensures.joined in
    rw (← c.self.view_is) (
    c.in_ok-merge_entries.ensures.handed
    ∙ ap₂ (λ h es. handed h t es) over c.iter-others.ensures
    ∙ handed_all t o
    ∙ ap (newly_handed t) (sym joined))
