use Rattle.nb_table.proofs.Common.{◌∙◌, ap, ap₂, join, TableValue}
use Rattle.nb_table.proofs.SavedBytes.{saved_read}
use Rattle.nb_table.proofs.SavedReading.LoadLemmas.{one_table}
use Rattle.nb_table.proofs.laws.saved.merging_saved_tables_joins_them.Goals as goal

pub returns : goal.returns
returns c input other t u first second merged saved fits formed short others other_fits other_formed other_short read other_read is =
    ap (λ (v : TableValue). v.contents) is
    ∙ ap₂ join (one_table input first.contents t read (saved_read input t saved fits formed short)) (one_table other second.contents u other_read (saved_read other u others other_fits other_formed other_short))
