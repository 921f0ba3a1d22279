use Rattle.nb_table.proofs.Common.{◌≡◌, ◌+◌, length, map, take, drop, join, joined_all, Fits}
use Rattle.std.specs.Iterator.Adapters.{enumerate_count, enumerate_source}
use Rattle.std.specs.Vec.Iter.{into_iter_items, into_iter_len}
use Rattle.nb_table.proofs.Joins.{are_taken}
use Rattle.nb_table.proofs.table.merging.take_in_all.Given as goal

abbrev pub invariant-loop-index : goal.invariant-loop-index
invariant-loop-index l = record {
  left : drop (enumerate_count l.index-iterator) l.fn.others.items ≡ into_iter_items (enumerate_source l.index-iterator);
  size : enumerate_count l.index-iterator + into_iter_len (enumerate_source l.index-iterator) ≡ length l.fn.others.items;
  joined : l.first.contents ≡ joined_all join l.fn.first.contents (map (λ t. t.contents) (take (enumerate_count l.index-iterator) l.fn.others.items));
  limits : l.first.limits ≡ l.fn.first.limits;
  taken : are_taken join (Fits l.fn.first.limits) l.fn.first.contents (map (λ t. t.contents) (take (enumerate_count l.index-iterator) l.fn.others.items));
}
