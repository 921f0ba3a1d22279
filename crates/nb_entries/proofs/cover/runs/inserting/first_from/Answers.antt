use Rattle.nb_entries.proofs.Common.{rules, arith, ltb, ltb-true, ltb-false, ◌<◌, ◌≤◌, IsPartitionPoint-from_clause, IsPartitionedBy-ltb, run_end, value_of}
use Rattle.nb_entries.proofs.KeptRuns.RunRowLemmas.{all_take, all_drop, ends_rise}
use Rattle.nb_entries.proofs.cover.runs.inserting.first_from.Goals as goal

pub returns : goal.returns
returns c =
    let parted = IsPartitionedBy-ltb (λ p. run_end (value_of p)) c.args.runs.now c.args.place (ends_rise c.args.runs.now c.requires) in
    let point = IsPartitionPoint-from_clause (λ p. ltb (run_end (value_of p)) c.args.place) _ _ c.partition_point.ensures.partitioned parted (λ a r q k. search rules) in
    record {
      within = c.partition_point.ensures.bound;
      before = all_take (λ r. run_end r < c.args.place) value_of c.args.runs.now _ (λ k d h. ltb-true _ _ (point.0 k d (omega arith) h)) c.partition_point.ensures.bound;
      after = all_drop (λ r. c.args.place ≤ run_end r) value_of c.args.runs.now _ (λ k d l h. ltb-false _ _ (point.1 k d l h));
    }
