use Rattle.nb_member.proofs.Common.{◌≡◌, arith, sym, ap, ◌∙◌, ◌+◌, Bool, cond, HandedOut}
use Rattle.nb_member.proofs.EventTakingLemmas.OneEvent.{none_so_far, so_far_more, stopped_at, all_taken}
use Rattle.nb_member.proofs.event_taking.run.Goals as goal
use Rattle.nb_member.proofs.event_taking.run.Goals.{then-was_refused, else-was_refused}

pub loop-index-init : goal.loop-index-init
loop-index-init c =
    none_so_far c.args.member.now c.args.events.now
    (record { deliveries = c.new.result.items; errors = c.new-2.result.items }) c.new.ensures.items c.new-2.ensures.items

pub returns-in-Err : goal.returns-in-Err
returns-in-Err c =
    let before : HandedOut = record { deliveries = c.loop-index.log.deliveries.items; errors = c.loop-index.log.errors.items } in
    let after : HandedOut = record { deliveries = c.take.new.self.deliveries.items; errors = c.take.new.self.errors.items } in
    stopped_at c.args.member.now c.args.events.now c.loop-index.index c.index-events-index.result c.loop-index.member
    c.take.new.member before after c.loop-index.refused c.in-Err.stop c.into_report.result c.loop-index-test.true
    c.index-events-index.is c.loop-index.invariant c.take.ensures.kept c.in-Err.ensures.step
    c.in-Err.ensures.payload c.into_report.ensures

pub loop-index-preserved : goal.loop-index-preserved
loop-index-preserved c =
    let before : HandedOut = record { deliveries = c.loop-index.log.deliveries.items; errors = c.loop-index.log.errors.items } in
    let after : HandedOut = record { deliveries = c.take.new.self.deliveries.items; errors = c.take.new.self.errors.items } in
    let counts : c.if-was_refused.refused ≡ c.loop-index.refused + cond c.in-Ok.was_refused 1 0 = elim c.if-was_refused.branch [
      | then-was_refused w ↦ w.refused-is ∙ sym (ap (λ (b : Bool). c.loop-index.refused + cond b 1 0) w.if-was_refused.true)
      | else-was_refused w ↦
          let same = w.refused-is in
          let none = ap (λ (b : Bool). c.loop-index.refused + cond b 1 0) w.if-was_refused.false in
          omega (arith, same, none)
    ] in
    so_far_more c.args.member.now c.args.events.now c.loop-index.index c.index-events-index.result c.loop-index.member
    c.take.new.member before after c.loop-index.refused c.if-was_refused.refused c.in-Ok.was_refused c.loop-index-test.true
    c.index-events-index.is c.loop-index.invariant c.take.ensures.kept c.in-Ok.ensures.step counts

pub returns : goal.returns
returns c =
    all_taken c.args.member.now c.args.events.now c.loop-index.index c.loop-index.member
    (record { deliveries = c.loop-index.log.deliveries.items; errors = c.loop-index.log.errors.items }) c.loop-index.refused
    c.into_report-2.result c.loop-index.invariant c.loop-index-test.false c.into_report-2.ensures
