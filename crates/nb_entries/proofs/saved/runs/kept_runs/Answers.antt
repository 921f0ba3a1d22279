use Rattle.nb_entries.proofs.Common.{◌+◌, ◌-◌, arith, kept_values, row_next}
use Rattle.nb_entries.proofs.KeptRuns.RunReadLemmas.{row_kept}
use Rattle.nb_entries.proofs.saved.runs.kept_runs.Goals as goal

pub loop-preserved : goal.loop-preserved
loop-preserved c = record {
  some = c.in_ok-add_run.ensures.some;
  there = row_next (c.args.count - c.loop.counter) (c.args.count - (c.loop.counter + 1)) _ _ (omega arith) c.split_run-run.ensures.rest c.loop.invariant.there;
  left = row_kept (kept_values c.loop.kept) _ _ (c.args.count - c.loop.counter) (c.args.count - (c.loop.counter + 1)) _ _ _ _ _ (omega arith) c.split_run-run.ensures.run c.split_run-run.ensures.rest c.start.ensures.value c.bytes.ensures.value c.in_ok-add_run.ensures.ok c.loop.invariant.left;
}
