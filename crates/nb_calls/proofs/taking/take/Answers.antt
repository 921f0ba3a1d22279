use Rattle.nb_calls.proofs.Common.{Ok, Err, ap, refl, refused_status, ◌∙◌}
use Rattle.nb_member.specs.declared.outcome.MemberFault.TheVariants.{Packet, Table}
use Rattle.nb_calls.specs.Stations.{answered}
use Rattle.nb_calls.proofs.taking.take.Goals as goal

pub returns-in-Ok : goal.returns-in-Ok
returns-in-Ok c =
    answered (Ok c.in-Ok.outcome) c.if-into-lt-TAKE_ROOM.false c.in-Ok.ensures
    (c.tell.ensures.numbers, c.tell.ensures.bytes.0, c.tell.ensures.bytes.1, refl)

pub returns-in-Err-Packet : goal.returns-in-Err-Packet
returns-in-Err-Packet c =
    answered (Err (Packet c.in-Err-Packet.fault c.in-Err-Packet.error)) c.if-into-lt-TAKE_ROOM.false
    (rw c.in-Err-Packet.field-0-is at c.in-Err-Packet.ensures)
    (c.tell_refused.ensures.numbers, c.tell_refused.ensures.bytes.0, c.tell_refused.ensures.bytes.1, refl)

pub returns-in-Err-Table : goal.returns-in-Err-Table
returns-in-Err-Table c =
    answered (Err (Table c.in-Err-Table.fault)) c.if-into-lt-TAKE_ROOM.false
    (rw c.in-Err-Table.field-0-is at c.in-Err-Table.ensures)
    (refl, refl, refl, c.status_of.ensures ∙ ap refused_status c.table_refusal.ensures)
