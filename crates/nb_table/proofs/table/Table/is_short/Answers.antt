use Rattle.nb_table.proofs.Common.{◌∙◌, sym}
use Rattle.nb_table.proofs.Limits.CountLemmas.{all_short_decides}
use Rattle.nb_table.proofs.table.Table.is_short.Goals as goal

pub returns : goal.returns
returns c =
    let decides = all_short_decides c.args.longest c.self.inside.entries in
    rw (← c.self.view_is) (λ h. decides.0 (sym c.are_short.ensures ∙ h), λ h. c.are_short.ensures ∙ decides.1 h)
