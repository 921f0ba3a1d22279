use Rattle.nb_entries.proofs.Common.{arith, ◌+◌, ◌-◌, row_next, row_long, row_short}
use Rattle.nb_entries.proofs.saved.runs.row_is_short.Goals as goal

pub returns-then-end-from : goal.returns-then-end-from
returns-then-end-from c =
    row_long c.args.limit (c.args.count - c.loop.counter) (c.args.count - (c.loop.counter + 1)) _ _ _ (omega arith) c.split_run-run.ensures.run (omega (arith, c.end.ensures, c.from.ensures)) c.loop.invariant.left

pub loop-preserved : goal.loop-preserved
loop-preserved c =
    let end = c.end.ensures in
    let limit = c.from.ensures in
    record {
      there = row_next (c.args.count - c.loop.counter) (c.args.count - (c.loop.counter + 1)) _ _ (omega arith) c.split_run-run.ensures.rest c.loop.invariant.there;
      left = row_short c.args.limit (c.args.count - c.loop.counter) (c.args.count - (c.loop.counter + 1)) _ _ _ _ (omega arith) c.split_run-run.ensures.run c.split_run-run.ensures.rest (omega (arith, end, limit)) c.loop.invariant.left;
    }
