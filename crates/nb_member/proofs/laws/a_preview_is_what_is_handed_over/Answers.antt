use Rattle.nb_member.proofs.Common.{filter, ap, sym, ◌∙◌, TableValue, hears, contents}
use Rattle.nb_table.specs.Merging.{newly_handed}
use Rattle.nb_member.proofs.laws.a_preview_is_what_is_handed_over.Goals as goal

pub returns : goal.returns
returns c m other moment new said datagrams p a =
    a.heard
    ∙ ap (λ (t : TableValue). filter (hears m.names) (newly_handed (contents m) t.contents)) a.merged.table_is
    ∙ sym p.heard
