use Rattle.nb_entries.proofs.Common.{◌≡◌, ◌+◌, length, take, drop, runs_in, NoneEmpty}
use Rattle.nb_entries.proofs.cover.runs.inserting.join_rows.Given as goal

abbrev pub invariant-loop : goal.invariant-loop
invariant-loop l = record {
  some : NoneEmpty l.rows.items;
  same : runs_in l.rows.items ≡ runs_in l.fn.rows.items;
  front : take l.at l.rows.items ≡ take l.at l.fn.rows.items;
  back : drop (l.at + 1) l.rows.items ≡ drop l.counter l.fn.rows.items;
  size : length l.rows.items + l.counter ≡ length l.fn.rows.items + (l.at + 1);
}
