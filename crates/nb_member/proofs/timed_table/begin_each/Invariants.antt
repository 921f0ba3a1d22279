use Rattle.nb_member.proofs.Common.{◌≡◌, begun_each}
use Rattle.std.specs.FinMap as maps
use Rattle.nb_member.proofs.MemberLemmas.Timers.{AreAnswered}
use Rattle.nb_member.proofs.timed_table.begin_each.Given as goal

abbrev pub invariant-loop-key : goal.invariant-loop-key
invariant-loop-key l =
    (begun_each l.starts l.key-iterator l.moment ≡ begun_each l.fn.starts (maps.keys l.other.contents) l.moment)
    × AreAnswered l.own.contents l.starts l.key-iterator
