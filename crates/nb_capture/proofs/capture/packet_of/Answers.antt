use Rattle.nb_capture.proofs.Common.{err_from_is_err_and, packet}
use Rattle.nb_capture.proofs.CaptureLemmas.Words.{packet_behind, packet_at_space, packet_has_space, payload_refused}
use Rattle.nb_capture.proofs.capture.packet_of.Goals as goal

pub returns-in_default : goal.returns-in_default
returns-in_default c =
    λ text p value says.
    c.in_default.ensures (packet_has_space c.args.port c.args.words.now value (packet_behind c.args.port text c.args.words.now value p says))

pub returns-in_default-moment_of : goal.returns-in_default-moment_of
returns-in_default-moment_of c =
    λ text p value says.
    let parts = packet_at_space c.args.port c.args.words.now _ _ value (packet_behind c.args.port text c.args.words.now value p says) c.in-Some.ensures.0 c.in-Some.ensures.1 in
    c.in_default-moment_of.ensures parts.0 parts.2

pub returns-in_err-payload : goal.returns-in_err-payload
returns-in_err-payload c =
    let p = err_from_is_err_and c.from_residual.result c.from_residual.ensures.1 in
    λ text port.
    rw p.1 (payload_refused c.args.port c.in-Some-moment_of.moment text c.args.words.now c.in-Some.digits.now c.in-Some.hexadecimal.now _ _ p.2 port c.in-Some.ensures.0 c.in-Some.ensures.1 c.in-Some-moment_of.ensures c.in_err-payload.ensures)

pub returns : goal.returns
returns c =
    λ text port.
    rw c.in-Some.ensures.0 (packet c.args.port c.in-Some-moment_of.moment c.in_ok-payload.payload text c.in-Some.digits.now c.in-Some.hexadecimal.now port c.in-Some-moment_of.ensures c.in_ok-payload.ensures)
