use Rattle.nb_member.proofs.Common.{ap, ◌∙◌, arith, TableValue, TimedValue}
use Rattle.std.specs.FinMap as maps
use Rattle.nb_member.proofs.MemberLemmas.DroppedKeys.{fewer_left}
use Rattle.nb_member.proofs.member.Member.tick.Goals as goal

pub overflow_sub-result : goal.overflow_sub-result
overflow_sub-result c =
    let t = c.self.inside.timed in
    let before = c.len-before.ensures.count ∙ ap (λ (x : TableValue). maps.len x.contents) c.table.ensures in
    let after = c.len-after.ensures.count
    ∙ (ap (λ (x : TableValue). maps.len x.contents) c.table-2.ensures ∙ ap (λ (x : TimedValue). maps.len x.table.contents) c.tick.ensures) in
    let fewer = fewer_left t.table.contents t.moments c.args.now in
    omega (arith, before, after, fewer)

pub returns-clause-count : goal.returns-clause-count
returns-clause-count c =
    let t = c.self.inside.timed in
    let before = c.len-before.ensures.count ∙ ap (λ (x : TableValue). maps.len x.contents) c.table.ensures in
    let after = c.len-after.ensures.count ∙ ap (λ (x : TableValue). maps.len x.contents) c.table-2.ensures in
    let dropped = ap (λ (x : TimedValue). maps.len x.table.contents) c.tick.ensures in
    let fewer = fewer_left t.table.contents t.moments c.args.now in
    rw (← c.self.view_is) (omega (arith, before, after, dropped, fewer))
