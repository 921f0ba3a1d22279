use Rattle.nb_entries.proofs.Common.{◌≡◌, ◌-◌, nat_le, list_all, run_end, row_of, RowThere}
use Rattle.nb_entries.proofs.saved.runs.row_is_short.Given as goal

abbrev pub invariant-loop : goal.invariant-loop
invariant-loop l = record {
  there : RowThere (l.count - l.counter) l.rest;
  left : list_all (λ r. nat_le (run_end r) l.limit) (row_of (l.count - l.counter) l.rest) ≡ list_all (λ r. nat_le (run_end r) l.limit) (row_of l.count l.bytes);
}
