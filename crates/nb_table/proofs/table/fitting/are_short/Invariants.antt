use Rattle.nb_table.proofs.Common.{◌≡◌, list_all, is_short}
use Rattle.std.specs.FinMap as maps
use Rattle.nb_table.proofs.table.fitting.are_short.Given as goal

abbrev pub invariant-loop-key : goal.invariant-loop-key
invariant-loop-key l = list_all (λ e. is_short l.longest e.1) (maps.entries l.entries) ≡ list_all (λ e. is_short l.longest e.1) l._key-iterator
