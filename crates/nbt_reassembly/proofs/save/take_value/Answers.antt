use Rattle.nbt_reassembly.proofs.Common.{Some, ap, err_from_is_err_and}
use Rattle.nb_capture.specs.declared.line.Line.{Line}
use Rattle.nbt_reassembly.proofs.SavingTurns.{said_stops}
use Rattle.nbt_reassembly.proofs.save.take_value.Goals as goal

pub returns-in_err-take_payload-in-Packet-clause-stops :
    goal.returns-in_err-take_payload-in-Packet-clause-stops
returns-in_err-take_payload-in-Packet-clause-stops c =
    let p = err_from_is_err_and c.from_residual.result c.from_residual.ensures.1 in
    let s = c.in-Packet in
    rw (p.1, p.2) (said_stops _ _ s.port s.moment s.payload _ _ (ap (λ (l : Line). Some l) s.is) c.if-port-eq-PORT.true c.as_slice.ensures
    c.in_err-take_payload-in-Packet.ensures.stops)
