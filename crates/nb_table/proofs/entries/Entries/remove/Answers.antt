use Rattle.nb_table.proofs.Common.{◌∙◌, sym, ap, subst, is_some, key_cmp, key_cmp_total, key_cmp_exact, AreCounted, get_is, remove_is}
use Rattle.std.specs.FinMap as maps
use Rattle.nb_table.proofs.Limits.CountLemmas.{kept_less}
use Rattle.nb_table.proofs.entries.Entries.remove.Goals as goal

pub invariant_of-self : goal.invariant_of-self
invariant_of-self c =
    let m = c.self.inside.map in
    let held = ap is_some (get_is key_cmp_total m c.args.key.now ∙ sym c.remove-entry.ensures.value) ∙ sym c.is_some.ensures ∙ c.if-is_some.true in
    subst (AreCounted c.count_less.new.counts) (sym (remove_is key_cmp_total key_cmp_exact m c.remove-entry.new.self c.args.key.now c.remove-entry.ensures.updates))
    (kept_less c.self.inside.counts c.count_less.new.counts (maps.from_entries {R = key_cmp} m.entries) c.args.key.now held c.count_less.ensures c.self.invariant)

pub returns-then-is_some-clause-value : goal.returns-then-is_some-clause-value
returns-then-is_some-clause-value c = rw (← c.self.view_is) (c.remove-entry.ensures.value ∙ sym (get_is key_cmp_total c.self.inside.map c.args.key.now))

pub returns-then-is_some-clause-removed : goal.returns-then-is_some-clause-removed
returns-then-is_some-clause-removed c = rw (← c.self.view_is) (remove_is key_cmp_total key_cmp_exact c.self.inside.map c.remove-entry.new.self c.args.key.now c.remove-entry.ensures.updates)

pub returns-else-is_some-clause-value : goal.returns-else-is_some-clause-value
returns-else-is_some-clause-value c = rw (← c.self.view_is) (c.remove-entry.ensures.value ∙ sym (get_is key_cmp_total c.self.inside.map c.args.key.now))

pub returns-else-is_some-clause-removed : goal.returns-else-is_some-clause-removed
returns-else-is_some-clause-removed c = rw (← c.self.view_is) (remove_is key_cmp_total key_cmp_exact c.self.inside.map c.remove-entry.new.self c.args.key.now c.remove-entry.ensures.updates)
