use Rattle.nb_table.proofs.Common.{AllByRecursion, Second, HasNames, entries_bytes}
use Rattle.nb_entries.specs.Sinks.{ToPut}
use Rattle.nb_table.proofs.saved.entries.put_entries.Given as goal

abbrev pub invariant-loop-key : goal.invariant-loop-key
invariant-loop-key g l = record {
  left : ToPut g.S.ByteSink.takes g.S.ByteSink.breaks l.fn.sink (entries_bytes Second l.entries.entries)
      l.sink (entries_bytes Second l.key-iterator);
  named : AllByRecursion HasNames l.key-iterator → AllByRecursion HasNames l.entries.entries;
}
