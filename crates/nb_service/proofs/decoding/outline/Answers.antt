use Rattle.std.proofs.Common.{length, ap, arith}
use Rattle.std.proofs.lemmas.Result.{err_from_is_err_and}
use Rattle.nb_service.specs.Packet.{header_of}
use Rattle.nb_service.specs.ServiceFaults.{cut_header}
use Rattle.nb_service.proofs.PacketLemmas.{header_within}
use Rattle.nb_service.proofs.decoding.outline.Goals as goal

pub returns-in_err-header-clause-only : goal.returns-in_err-header-clause-only
returns-in_err-header-clause-only c packet used h =
    absurd (omega (arith, header_within _ _ h.header, ap length c.packet.ensures, c.in_err-header.ensures.fault.1))

pub returns-in_err-header-clause-fault : goal.returns-in_err-header-clause-fault
returns-in_err-header-clause-fault c =
    let p = err_from_is_err_and c.from_residual.result c.from_residual.ensures.1 in
    rw (p.1, p.2, c.in_err-header.ensures.fault.0, ← c.packet.ensures) (cut_header c.in_err-header.ensures.fault.1)

pub returns-in-None-clause-only : goal.returns-in-None-clause-only
returns-in-None-clause-only c packet used h =
    let seen = c.walk-walked.ensures in
    let end = rw c.in-None.is at seen.end in
    let one = c.one_packet.ensures _ seen.part packet _ used end.0 h in
    (rw (← end.1) (ap header_of one.0), one.1)

pub returns-in-Some-clause-only : goal.returns-in-Some-clause-only
returns-in-Some-clause-only c packet used h =
    absurd (c.one_service_fault.ensures.alone _ _ packet used (rw c.in-Some.is at c.walk-walked.ensures.end) h)
