use Rattle.std.proofs.Common.{◌≡◌, drop}
use Rattle.nb_member.proofs.MemberLemmas.DroppedKeys.{dropped_each}
use Rattle.nb_member.proofs.timed_table.drop_over.Given as goal

abbrev pub invariant-loop-start : goal.invariant-loop-start
invariant-loop-start l =
    dropped_each l.now (drop l.start-index l.moments) l.table ≡ dropped_each l.now l.moments l.fn.table
