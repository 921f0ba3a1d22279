use Rattle.nb_table.proofs.Common.{sym, subst, key_cmp, AreCounted}
use Rattle.std.specs.FinMap as maps
use Rattle.nb_table.proofs.Limits.CountLemmas.{kept_none}
use Rattle.nb_table.proofs.entries.Entries.new.Goals as goal

pub invariant_of-result : goal.invariant_of-result
invariant_of-result c = subst (λ es. AreCounted c.no_counts.result (maps.from_entries {R = key_cmp} es)) (sym c.new.ensures.empty) (kept_none c.no_counts.result c.no_counts.ensures)
