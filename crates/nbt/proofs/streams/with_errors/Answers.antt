use Rattle.nbt.proofs.EndingLemmas.{ends_lent}
use Rattle.nbt.proofs.streams.with_errors.Goals as goal

pub returns-clause-runs : goal.returns-clause-runs
returns-clause-runs g c =
    ends_lent g.R.Read.remaining g.W.Write.contents _ c.new-input.result c.run_counted-status.new.input c.new-output.result c.run_counted-status.new.output _ _ _ _
    c.run_counted-status.result c.code.result c.new-input.ensures.inner c.new-input.ensures.counts c.into_inner.ensures c.new-output.ensures.inner
    c.new-output.ensures.counts c.into_inner-2.ensures c.code.ensures.value
    (record {
      ran = c.run_counted-status.ensures.ran;
      alone = c.run_counted-status.ensures.alone;
      usage = c.run_counted-status.ensures.usage;
      misused = c.run_counted-status.ensures.misused;
    })
