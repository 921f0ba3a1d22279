use Rattle.std.proofs.Common.{ℕ, take, subst, arith}
use Rattle.nb_session.specs.Header.{IsGood}
use Rattle.nb_session.specs.Parsing.{RequestFails, header_lacks, header_fails, body_lacks, body_fails, whole}
use Rattle.nb_session.proofs.HeaderLemmas.{header_in_front}
use Rattle.nb_session.proofs.parsing.parse_front.Goals as goal

pub returns-in_default : goal.returns-in_default
returns-in_default c = header_lacks c.in_default.ensures.found

pub returns-in-Err : goal.returns-in-Err
returns-in-Err c = header_fails _ _ c.in-Some.ensures.found c.in-Err.ensures.fault

pub returns-then-bytes-used : goal.returns-then-bytes-used
returns-then-bytes-used c =
    rw c.packet_length-used.ensures
    (body_lacks c.in-Some.header c.in-Ok.kind c.in-Some.ensures.found c.in-Ok.ensures.good (omega (arith, c.if-bytes-used.true, c.packet_length-used.ensures)))

pub read_packet_of-requires-clause-header : goal.read_packet_of-requires-clause-header
read_packet_of-requires-clause-header c =
    header_in_front c.args.bytes.now c.packet_length-used.result c.in-Some.header (omega (arith, c.packet_length-used.ensures)) c.in-Some.ensures.found

pub returns-in-Ok-read_packet_of : goal.returns-in-Ok-read_packet_of
returns-in-Ok-read_packet_of c = whole _ _ c.if-bytes-used.false c.in-Ok-read_packet_of.ensures.found

pub returns-in-Err-read_packet_of : goal.returns-in-Err-read_packet_of
returns-in-Err-read_packet_of c =
    let h = c.in-Some.header in
    let why = c.in-Err-read_packet_of.ensures.fault in
    body_fails h _ c.in-Some.ensures.found (subst (IsGood h) why.0 c.in-Ok.ensures.good)
    (omega (arith, c.if-bytes-used.false, c.packet_length-used.ensures))
    (subst (λ (n : ℕ). RequestFails (take n c.args.bytes.now) c.in-Err-read_packet_of.fault) c.packet_length-used.ensures why.1)
