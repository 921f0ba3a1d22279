use Rattle.std.proofs.Common.{Some, arith, ap, sym, ◌∙◌}
use Rattle.std.proofs.lemmas.Option.{slice_get-get_or}
use Rattle.nbt_look.specs.Sources.{time_in, time_of}
use Rattle.nbt_look.proofs.TurnLemmas.{best_next}
use Rattle.nbt_look.proofs.sources.first_of.Goals as goal

pub loop-at-preserved : goal.loop-at-preserved
loop-at-preserved g c =
    rw c.earlier_of-first.ensures
    (best_next c.args.sources.now c.loop-at.at c.loop-at.first (time_in c.waiting.result) c.loop-at.invariant
    (ap time_of (slice_get-get_or c.args.sources.now c.loop-at.at c.index-sources-at.result (omega arith) ∙ ap Some (sym c.index-sources-at.is)) ∙ sym (ap time_in c.waiting.ensures)))
