use Rattle.nb_table.proofs.Common.{sym, subst, HasNoZero, ip_cmp}
use Rattle.std.specs.FinMap as maps
use Rattle.nb_table.proofs.Limits.CountLemmas.{zero_none}
use Rattle.nb_table.proofs.entries.counts.SourceCounts.new.Goals as goal

pub invariant_of-result : goal.invariant_of-result
invariant_of-result c = subst (λ es. HasNoZero (maps.from_entries {R = ip_cmp} es)) (sym c.new.ensures.empty) zero_none
