use Rattle.std.specs.FinMap as maps
use Rattle.nb_table.proofs.Limits.UnfitLemmas.{Gone}
use Rattle.nb_table.proofs.table.fitting.unfit_source.Given as goal

abbrev pub invariant-loop-key : goal.invariant-loop-key
invariant-loop-key l =
    Gone l.most l.entries l.others l.before (maps.entries l.others) l.key-iterator
