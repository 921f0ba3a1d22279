use Rattle.nb_table.proofs.Common.{◌∙◌, sym, key_cmp_total, key_cmp_exact, entries_are}
use Rattle.nb_table.proofs.entries.Entries.iter.Goals as goal

pub returns : goal.returns
returns c = rw (← c.self.view_is) (c.iter.ensures.rest ∙ sym (entries_are key_cmp_total key_cmp_exact c.self.inside.map c.iter.ensures.ordered))
