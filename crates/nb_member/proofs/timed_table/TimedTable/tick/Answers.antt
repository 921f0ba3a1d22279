use Rattle.nb_member.proofs.Common.{sym, ap, ◌∙◌, TableValue, Moments}
use Rattle.std.specs.FinMap as maps
use Rattle.nb_member.proofs.MemberLemmas.DroppedKeys.{one_set_left}
use Rattle.nb_member.proofs.timed_table.TimedTable.tick.Goals as goal

pub invariant_of-self : goal.invariant_of-self
invariant_of-self c =
    λ k.
    ap (λ (m : Moments). maps.contains_key m k) c.expire.ensures.moments
    ∙ (one_set_left c.self.inside.table.contents c.self.inside.starts c.args.now c.self.invariant k
    ∙ sym (ap (λ (t : TableValue). maps.contains_key t.contents k) c.expire.ensures.left))
