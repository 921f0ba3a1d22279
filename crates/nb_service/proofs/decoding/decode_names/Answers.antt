use Rattle.std.proofs.lemmas.Result.{err_from_is_err_and}
use Rattle.nb_service.specs.ServiceFaults.{cut_header, malformed}
use Rattle.nb_service.proofs.PacketLemmas.{refused_memory, packet_within}
use Rattle.nb_service.proofs.decoding.decode_names.Goals as goal

pub returns-in_err-header-clause-fault : goal.returns-in_err-header-clause-fault
returns-in_err-header-clause-fault c =
    let p = err_from_is_err_and c.from_residual.result c.from_residual.ensures.1 in
    rw (p.1, p.2, c.in_err-header.ensures.fault.0, ← c.packet.ensures) (malformed (cut_header c.in_err-header.ensures.fault.1))

pub returns-in-Some-clause-only : goal.returns-in-Some-clause-only
returns-in-Some-clause-only c packet used h =
    absurd (c.one_service_fault.ensures.alone _ _ packet used (rw c.in-Some.is at c.walk-walked.ensures.end) h)

pub returns-in-Some-clause-fault : goal.returns-in-Some-clause-fault
returns-in-Some-clause-fault c = malformed (rw c.in-Some.is at c.walk-walked.ensures.end)

pub returns-in_err-build-clause-fault : goal.returns-in_err-build-clause-fault
returns-in_err-build-clause-fault c =
    let seen = c.walk-walked.ensures in
    let p = err_from_is_err_and c.from_residual-in_err-build.result c.from_residual-in_err-build.ensures.1 in
    rw (p.1, p.2) (refused_memory _ _ _ _ (rw c.in_default.is at seen.end) c.in_err-build.ensures.memory)

pub returns-clause-only : goal.returns-clause-only
returns-clause-only c packet used h = c.one_packet.ensures _ _ packet _ used c.in_ok-build.ensures.found h

pub returns-clause-within : goal.returns-clause-within
returns-clause-within c = packet_within _ _ _ c.in_ok-build.ensures.found
