use Rattle.std.proofs.Common.{arith}
use Rattle.std.proofs.lemmas.Result.{err_from_is_err_and}
use Rattle.nb_session.specs.Parsing.{called_fails, calling_fails, bytes_trail}
use Rattle.nb_session.proofs.PacketLemmas.{request_made}
use Rattle.nb_session.proofs.parsing.read_request.Goals as goal

pub returns-in_err-called-clause-fault : goal.returns-in_err-called-clause-fault
returns-in_err-called-clause-fault c =
    let p = err_from_is_err_and c.from_residual.result c.from_residual.ensures.1 in
    rw (p.1, p.2) (called_fails _ c.in_err-called.ensures.fault)

pub returns-in_err-calling-clause-fault : goal.returns-in_err-calling-clause-fault
returns-in_err-calling-clause-fault c =
    let p = err_from_is_err_and c.from_residual-in_err-calling.result c.from_residual-in_err-calling.ensures.1 in
    rw (p.1, p.2) (calling_fails _ _ _ c.in_ok-called.ensures.name.0 c.in_ok-called.ensures.found c.in_err-calling.ensures.fault)

pub returns-then-end-packet-clause-fault : goal.returns-then-end-packet-clause-fault
returns-then-end-packet-clause-fault c =
    bytes_trail _ _ _ _ c.in_ok-called.ensures.name.0 c.in_ok-calling.ensures.name.0 c.in_ok-called.ensures.found c.in_ok-calling.ensures.found c.if-end-packet.true

pub returns-clause-found : goal.returns-clause-found
returns-clause-found c =
    request_made _ _ _ _ _ _ c.requires.header c.requires.good c.requires.whole c.in_ok-called.ensures.name.0 c.in_ok-calling.ensures.name.0 c.in_ok-called.ensures.found c.in_ok-calling.ensures.found
    (omega (arith, c.in_ok-calling.ensures.within, c.if-end-packet.false))
