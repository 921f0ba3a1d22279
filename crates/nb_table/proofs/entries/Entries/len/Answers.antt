use Rattle.nb_table.proofs.Common.{◌∙◌, sym, key_cmp_total, key_cmp_exact, len_is}
use Rattle.nb_table.proofs.entries.Entries.len.Goals as goal

pub returns-clause-count : goal.returns-clause-count
returns-clause-count c = rw (← c.self.view_is) (c.len.ensures.len ∙ sym (len_is key_cmp_total key_cmp_exact c.self.inside.map c.len.ensures.ordered))
