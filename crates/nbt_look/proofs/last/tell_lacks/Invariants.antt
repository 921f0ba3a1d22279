use Rattle.std.proofs.Common.{◌≡◌, drop, fold}
use Rattle.nbt_look.specs.Totals.{lacks_fields}
use Rattle.nbt_look.proofs.last.tell_lacks.Given as goal

abbrev pub invariant-loop-lack : goal.invariant-loop-lack
invariant-loop-lack g l =
    fold g.S.Sink.after (g.S.Sink.seen l.sink) (lacks_fields l.counts (drop l.lack-index l.lacks))
    ≡ fold g.S.Sink.after (g.S.Sink.seen l.fn.sink) (lacks_fields l.counts l.lacks)
