use Rattle.nb_table.proofs.Common.{◌∙◌, sym, key_cmp_total, key_cmp_exact, entries_are}
use Rattle.nb_table.proofs.entries.Entries.into_iter.Goals as goal

pub returns : goal.returns
returns c =
    let gives = c.into_iter.ensures.into_iter_gives in
    rw (← c.self.view_is) (gives.0 ∙ sym (entries_are key_cmp_total key_cmp_exact c.self.inside.map gives.5))
