use Rattle.nb_entries.proofs.Common.{arith}
use Rattle.nb_entries.proofs.KeptRuns.RunRowLemmas.{start_to, start_after}
use Rattle.nb_entries.proofs.cover.runs.inserting.past_to.Goals as goal

pub returns-then-start-place-clause-after : goal.returns-then-start-place-clause-after
returns-then-start-place-clause-after c =
    start_after c.args.runs.now c.loop-index.index c.args.place c.index-runs-index.result c.requires.apart (omega arith) c.index-runs-index.is (omega (arith, c.start.ensures))

pub loop-index-preserved : goal.loop-index-preserved
loop-index-preserved c =
    start_to c.args.runs.now c.loop-index.index c.args.place c.index-runs-index.result c.requires.apart (omega arith) c.index-runs-index.is (omega (arith, c.start.ensures))
