use Rattle.nb_table.proofs.Common.{◌≤◌, ◌<◌, ◌^◌, rules, sym, subst, MAX_LENGTH, TableValue, IsReadAs, FitsSaved}
use Rattle.nb_table.proofs.SavedBytes.{table_fits, table_read}
use Rattle.nb_table.proofs.table.Table.save.Goals as goal

pub returns-clause-fits : goal.returns-clause-fits
returns-clause-fits c =
    let few : c.self.inside.keys < 2 ^ 32 = search rules in
    let most : c.self.inside.longest ≤ MAX_LENGTH = search rules in
    rw (← c.self.view_is) (table_fits _ c.self.invariant few most (rw c.as_map.ensures at c.in_ok-saved.ensures.named))

pub returns-clause-read_again : goal.returns-clause-read_again
returns-clause-read_again c =
    let most : c.self.inside.longest ≤ MAX_LENGTH = search rules in
    let fits = subst (λ (x : TableValue). FitsSaved x.contents) (sym c.self.view_is) (returns-clause-fits c) in
    rw (← c.self.view_is) (subst (λ b. IsReadAs b c.self.inside.entries) (sym (rw c.as_map.ensures at c.in_ok-saved.ensures.value)) (table_read _ c.self.invariant most fits))
