use Rattle.nb_entries.proofs.Common.{rules, ltb, arith, ltb-true, ltb-false, IsPartitionPoint-from_clause, IsPartitionedBy-ltb, last_end}
use Rattle.nb_entries.proofs.KeptRuns.RowsLemmas.{rows_rise, rows_before, lasts_to}
use Rattle.nb_entries.proofs.cover.runs.inserting.row_to.Goals as goal

pub returns : goal.returns
returns c =
    let rows = c.args.rows.now in
    let parted = IsPartitionedBy-ltb (λ p. last_end p.items) rows c.args.place (rows_rise rows c.requires.some c.requires.apart) in
    let point = IsPartitionPoint-from_clause (λ p. ltb (last_end p.items) c.args.place) _ _ c.partition_point.ensures.partitioned parted (λ a r q k. search rules) in
    record {
      within = c.partition_point.ensures.bound;
      before = rows_before rows c.args.place c.partition_point.result c.requires.apart c.partition_point.ensures.bound (λ k d h. ltb-true _ _ (point.0 k d (omega arith) h));
      reaches = lasts_to rows c.args.place c.partition_point.result (λ d h. ltb-false _ _ (point.1 c.partition_point.result d (omega arith) h));
    }
