use Rattle.std.proofs.Common.{◌∙◌, Some, ap, arith, sym}
use Rattle.std.proofs.lemmas.Option.{slice_get-get_or}
use Rattle.nbt_look.proofs.RunningLemmas.{told_one, told_short, told_through}
use Rattle.nbt_look.proofs.program.push_faults.Goals as goal

pub returns-then-titles-at : goal.returns-then-titles-at
returns-then-titles-at g c = told_short _ _ _ _ c.loop-at.at _ c.loop-at.invariant (omega arith)

pub loop-at-preserved : goal.loop-at-preserved
loop-at-preserved g c =
    told_one _ _ _ _ _ c.loop-at.at _
    c.index-sources-at.result c.sort_at.result c.loop-at.invariant
    (slice_get-get_or c.args.titles.now c.loop-at.at _ (omega arith))
    (slice_get-get_or c.args.sources.now c.loop-at.at c.index-sources-at.result (omega arith) ∙ ap Some (sym c.index-sources-at.is)) (rw c.waiting.ensures at c.in_ok-push_fault.ensures)

pub returns : goal.returns
returns g c = told_through _ _ _ _ _ c.loop-at.at c.loop-at.invariant (omega arith)
