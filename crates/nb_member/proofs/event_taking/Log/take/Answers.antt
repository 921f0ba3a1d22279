use Rattle.nb_member.proofs.Common.{List, sym, ap, ◌++◌, ◌∙◌, subst, refl, Err, false, Event, ErrorPacket, DatagramParts, RunStop, delivery_in, error_in, HandedOut, HasTaken, TakesEvent}
use Rattle.nb_member.specs.declared.outcome.Event.TheVariants.{Packet}
use Rattle.nb_member.proofs.EventTakingLemmas.OneEvent.{StepsKnown, clock_step, payload_step, no_room_step}
use Rattle.nb_member.proofs.event_taking.Log.take.Goals as goal

pub returns-then-not-has_made_room-clause-step : goal.returns-then-not-has_made_room-clause-step
returns-then-not-has_made_room-clause-step c = λ L stands.
    let m = c.args.member.now in
    let payload = c.as_slice-payload.result.now in
    let before : HandedOut = record { deliveries = c.args.self.now.deliveries.items; errors = c.args.self.now.errors.items } in
    let after : HandedOut = record { deliveries = c.has_made_room.new.self.deliveries.items; errors = c.has_made_room.new.self.errors.items } in
    let event = c.in-Packet.is ∙ ap (Packet c.in-Packet.moment) (sym c.as_slice-payload.ensures) in
    subst (λ (e : Event). TakesEvent m L e m before after (Err c.unwrap_or.result)) (sym event)
    (subst (λ (stop : RunStop). TakesEvent m L (Packet c.in-Packet.moment payload) m before after (Err stop)) (sym c.unwrap_or.ensures)
    (no_room_step m L c.in-Packet.moment payload c.limit_met.result before after stands c.limit_met.ensures
    c.has_made_room.ensures.deliveries c.has_made_room.ensures.errors))

pub returns-else-not-has_made_room-clause-step : goal.returns-else-not-has_made_room-clause-step
returns-else-not-has_made_room-clause-step c = λ L stands.
    let known : StepsKnown = record {
      says = c.a_member_does_what_is_said.ensures.says;
      does = c.a_member_does_what_is_said.ensures.does;
      memory = c.a_member_does_what_is_said.ensures.memory;
      keeps = c.a_member_does_what_is_said.ensures.refused;
      delivery = c.an_answer_shows_what_is_handed_out.ensures.delivery;
      error = c.an_answer_shows_what_is_handed_out.ensures.error;
    } in
    let before : HandedOut = record { deliveries = c.args.self.now.deliveries.items; errors = c.args.self.now.errors.items } in
    let after : HandedOut = record { deliveries = c.note.new.self.deliveries.items; errors = c.note.new.self.errors.items } in
    let event = c.in-Packet.is ∙ ap (Packet c.in-Packet.moment) (sym c.as_slice-payload.ensures) in
    let answer = c.take-answer.result in
    subst (λ (e : Event). TakesEvent c.args.member.now L e c.take-answer.new.self before after c.note.result) (sym event)
    (payload_step known c.args.member.now c.take-answer.new.self L c.in-Packet.moment c.as_slice-payload.result.now answer before after c.note.result
    stands c.take-answer.ensures
    (c.note.ensures.deliveries ∙ ap (λ (ds : List DatagramParts). ds ++ delivery_in answer) c.has_made_room.ensures.deliveries)
    (c.note.ensures.errors ∙ ap (λ (es : List ErrorPacket). es ++ error_in answer) c.has_made_room.ensures.errors)
    c.note.ensures.noted)

pub returns-in-Tick-clause-step : goal.returns-in-Tick-clause-step
returns-in-Tick-clause-step c = λ L stands.
    let out : HandedOut = record { deliveries = c.args.self.now.deliveries.items; errors = c.args.self.now.errors.items } in
    subst (λ (e : Event). HasTaken c.args.member.now.settings c.args.member.now.names L e c.tick.new.self out out false) (sym c.in-Tick.is)
    (clock_step c.args.member.now c.tick.new.self L c.in-Tick.now out out
    (c.a_member_drops_what_the_clock_ends.ensures c.args.member.now L c.in-Tick.now stands) c.tick.ensures.dropped refl refl)
