use Rattle.std.proofs.Common.{arith, refl}
use Rattle.std.proofs.lemmas.List.{take_rest}
use Rattle.nb_tcp.proofs.OrderLemmas.{alive_is, takes_keep_alive, takes_new}
use Rattle.nb_tcp.proofs.direction.Direction.take.Goals as goal

pub returns-then-keeps_alive-clause-takes : goal.returns-then-keeps_alive-clause-takes
returns-then-keeps_alive-clause-takes c = rw (← c.self.view_is)
    (takes_keep_alive _ _ c.args.sequence c.place_of-place.result c.args.on_wire c.args.payload.now c.place_of-place.ensures
    (alive_is c.self.inside.reach c.place_of-place.result c.args.on_wire c.max-numbers.result c.args.payload.now _ _
    c.only_keeps_alive-keeps_alive.ensures (omega (arith, c.max-numbers.ensures, c.from.ensures)) c.if-keeps_alive.true)
    refl refl (omega (arith, c.max-self-inside.ensures, c.max-numbers.ensures, c.from.ensures)) refl)

pub returns-clause-takes : goal.returns-clause-takes
returns-clause-takes c = rw (← c.self.view_is)
    (takes_new _ _ c.args.sequence c.place_of-place.result c.min-behind.result c.args.on_wire c.args.payload.now _
    c.put-count.result.0 c.contradicts-differs.result c.put-count.result.1 c.place_of-place.ensures
    (take_rest c.args.payload.now c.min-behind.result) (omega (arith, c.min-behind.ensures, c.max.ensures))
    (omega (arith, c.min-behind.ensures)) (λ lt. omega (arith, lt, c.min-behind.ensures, c.max.ensures))
    (alive_is c.self.inside.reach c.place_of-place.result c.args.on_wire c.max-numbers.result c.args.payload.now _ _
    c.only_keeps_alive-keeps_alive.ensures (omega (arith, c.max-numbers.ensures, c.from.ensures)) c.if-keeps_alive.false)
    refl refl (omega (arith, c.max-self-inside.ensures, c.max-numbers.ensures, c.from.ensures))
    c.put-count.ensures.put c.put-count.ensures.within c.put-count.ensures.whole c.put-count.ensures.full c.put-count.ensures.grows
    c.contradicts-differs.ensures.yes c.contradicts-differs.ensures.no)
