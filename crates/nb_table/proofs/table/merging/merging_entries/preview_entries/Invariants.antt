use Rattle.nb_table.proofs.Common.{◌≡◌, ◌++◌, AllByRecursion, MAX_LENGTH, IsShort}
use Rattle.std.specs.FinMap as maps
use Rattle.nb_table.proofs.Limits.MergingLemmas.{seen}
use Rattle.nb_table.proofs.table.merging.merging_entries.preview_entries.Given as goal

abbrev pub invariant-loop-key : goal.invariant-loop-key
invariant-loop-key l = record {
  short : AllByRecursion (λ e. IsShort MAX_LENGTH e.1) l.key-iterator;
  seen : l.datagrams.items ++ seen l.entries l.key-iterator ≡ seen l.entries (maps.entries l.others);
}
