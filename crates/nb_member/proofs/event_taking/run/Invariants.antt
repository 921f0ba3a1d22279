use Rattle.nb_member.proofs.EventTakingLemmas.OneEvent.{TakenSoFar}
use Rattle.nb_member.proofs.event_taking.run.Given as goal

abbrev pub invariant-loop-index : goal.invariant-loop-index
invariant-loop-index l =
    TakenSoFar l.fn.member l.events l.index l.member (record { deliveries = l.log.deliveries.items; errors = l.log.errors.items }) l.refused
