use Rattle.nb_table.proofs.Common.{◌∙◌, ap, is_some, sym, subst, TableValue, KeepsLimits}
use Rattle.nb_table.proofs.TableReads.{remove_keeps}
use Rattle.nb_table.proofs.table.Table.drop_key.Goals as goal

pub invariant_of-self : goal.invariant_of-self
invariant_of-self c =
    let old : TableValue = record { contents = c.self.inside.entries; limits = record { keys = c.self.inside.keys; per_source = c.self.inside.per_source; longest = c.self.inside.longest } } in
    subst (λ t. KeepsLimits (record { contents = t; limits = old.limits })) (sym c.remove.ensures.removed) (remove_keeps old c.args.key.now c.self.invariant)

pub returns-clause-held : goal.returns-clause-held
returns-clause-held c = rw (← c.self.view_is) (c.is_some.ensures ∙ ap is_some c.remove.ensures.value)

pub returns-clause-dropped : goal.returns-clause-dropped
returns-clause-dropped c =
    let contents = c.remove.ensures.removed in
    rw (← c.self.view_is) (λ i. record { contents = contents i; limits = record { keys = c.self.inside.keys; per_source = c.self.inside.per_source; longest = c.self.inside.longest } })
