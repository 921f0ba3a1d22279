use Rattle.nb_table.proofs.Common.{subst, sym, Limits, KeepsLimits}
use Rattle.nb_table.proofs.Limits.CountLemmas.{empty_keeps}
use Rattle.nb_table.proofs.table.Table.new.Goals as goal

pub invariant_of-result : goal.invariant_of-result
invariant_of-result c =
    let limits : Limits = record { keys = c.args.keys; per_source = c.args.per_source; longest = c.args.longest } in
    subst (λ t. KeepsLimits (record { contents = t; limits = limits })) (sym c.new.ensures) (empty_keeps limits)
