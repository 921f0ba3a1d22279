use Rattle.nb_table.proofs.Common.{ap, saved}
use Rattle.nb_table.proofs.SavedBytes.{table_same}
use Rattle.nb_table.proofs.laws.saved.saved_bytes_tell_the_table.Goals as goal

pub returns : goal.returns
returns c t u p q = (
  table_same (record { domain = c.labels_tell_the_name.ensures.domain; one = c.labels_tell_the_name.ensures.one }) t u p q,
  λ e. ap saved e,
)
