use Rattle.nb_table.proofs.Common.{ap, sym, ◌∙◌, key_cmp_total, key_cmp_exact, entries_are}
use Rattle.std.specs.Map.{keys_of}
use Rattle.nb_table.proofs.entries.Entries.keys.Goals as goal

pub returns : goal.returns
returns c = rw (← c.self.view_is) (c.keys.ensures.rest ∙ ap keys_of (sym (entries_are key_cmp_total key_cmp_exact c.self.inside.map c.keys.ensures.ordered)))
