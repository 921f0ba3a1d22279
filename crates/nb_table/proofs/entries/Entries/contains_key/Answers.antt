use Rattle.nb_table.proofs.Common.{◌∙◌, is_some, sym, ap, key_cmp_total, get_is}
use Rattle.nb_table.proofs.entries.Entries.contains_key.Goals as goal

pub returns : goal.returns
returns c = rw (← c.self.view_is) (c.contains_key.ensures ∙ ap is_some (sym (get_is key_cmp_total c.self.inside.map c.args.key.now)))
