use Rattle.nb_table.proofs.Common.{◌∙◌, sym, ap, unwrap_or, nat_list_cmp_total, get_is}
use Rattle.nb_table.proofs.entries.counts.SourceCounts.of.Goals as goal

pub returns-in-Some : goal.returns-in-Some
returns-in-Some c = rw (← c.self.view_is) (sym (ap (λ o. unwrap_or o 0) (get_is nat_list_cmp_total c.self.inside.counts c.args.ip ∙ sym c.in-Some.ensures.value)))

pub returns-in-None : goal.returns-in-None
returns-in-None c = rw (← c.self.view_is) (sym (ap (λ o. unwrap_or o 0) (get_is nat_list_cmp_total c.self.inside.counts c.args.ip ∙ sym c.in-None.ensures.value)))
