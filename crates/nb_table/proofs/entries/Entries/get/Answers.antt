use Rattle.nb_table.proofs.Common.{◌∙◌, sym, key_cmp_total, get_is}
use Rattle.nb_table.proofs.entries.Entries.get.Goals as goal

pub returns : goal.returns
returns c = rw (← c.self.view_is) (c.get.ensures.value ∙ sym (get_is key_cmp_total c.self.inside.map c.args.key.now))
