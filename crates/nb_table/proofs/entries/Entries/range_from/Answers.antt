use Rattle.nb_table.proofs.Common.{◌∙◌, sym, ap, entries_between, Included, Unbounded, key_cmp, key_cmp_total, key_cmp_exact, entries_are}
use Rattle.nb_table.proofs.entries.Entries.range_from.Goals as goal

pub returns : goal.returns
returns c = rw (← c.self.view_is) (c.range.ensures.between tt ∙ ap (entries_between key_cmp (Included c.args.key) Unbounded) (sym (entries_are key_cmp_total key_cmp_exact c.self.inside.map c.range.ensures.ordered)))
