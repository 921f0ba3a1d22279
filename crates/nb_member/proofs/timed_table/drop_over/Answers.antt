use Rattle.nb_member.proofs.Common.{ℕ, ◌≤◌, List, length, arith, sym, ◌∙◌, ap, drop_all, Key}
use Rattle.nb_member.proofs.MemberLemmas.DroppedKeys.{dropped_each, dropped_each_is}
use Rattle.nb_member.proofs.timed_table.drop_over.Goals as goal

pub returns : goal.returns
returns c =
    let es = c.args.moments.now in
    let past : length es ≤ c.loop-start.start-index = omega (arith, c.loop-start-test.false) in
    sym (ap (λ (rest : List (Key × ℕ)). dropped_each c.args.now rest c.loop-start.table) (drop_all c.loop-start.start-index es past))
    ∙ (c.loop-start.invariant ∙ dropped_each_is c.args.now es c.args.table.now c.requires)
