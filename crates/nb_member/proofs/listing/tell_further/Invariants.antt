use Rattle.nb_member.proofs.Common.{◌≡◌, fold, map, Grows, further_range}
use Rattle.nb_member.proofs.listing.tell_further.Given as goal

abbrev pub invariant-loop-range : goal.invariant-loop-range
invariant-loop-range g l =
    (fold g.S.Sink.after (g.S.Sink.seen l.sink) (map further_range l.range-iterator)
    ≡ fold g.S.Sink.after (g.S.Sink.seen l.fn.sink) (map further_range l.fn.ranges))
    × Grows g.S.Sink.is_front (g.S.Sink.seen l.fn.sink) (g.S.Sink.seen l.sink)
