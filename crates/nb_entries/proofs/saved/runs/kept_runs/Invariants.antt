use Rattle.nb_entries.proofs.Common.{◌≡◌, ◌-◌, ◌++◌, kept_values, AreFilled, row_of, RowThere}
use Rattle.nb_entries.proofs.saved.runs.kept_runs.Given as goal

abbrev pub invariant-loop : goal.invariant-loop
invariant-loop l = record {
  some : AreFilled l.kept;
  there : RowThere (l.count - l.counter) l.rest;
  left : kept_values l.kept ++ row_of (l.count - l.counter) l.rest ≡ row_of l.count l.bytes;
}
