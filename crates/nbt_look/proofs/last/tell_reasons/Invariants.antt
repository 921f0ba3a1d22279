use Rattle.std.proofs.Common.{◌≡◌, drop, fold}
use Rattle.nbt_look.specs.Totals.{reasons_fields}
use Rattle.nbt_look.proofs.last.tell_reasons.Given as goal

abbrev pub invariant-loop-reason : goal.invariant-loop-reason
invariant-loop-reason g l =
    fold g.S.Sink.after (g.S.Sink.seen l.sink) (reasons_fields l.counts (drop l.reason-index l.reasons))
    ≡ fold g.S.Sink.after (g.S.Sink.seen l.fn.sink) (reasons_fields l.counts l.reasons)
