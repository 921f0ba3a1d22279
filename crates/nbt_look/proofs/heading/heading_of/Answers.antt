use Rattle.nb_service.specs.Header.{header_value}
use Rattle.nbt_look.specs.Heading.{message, names, no_message, no_names, no_session, session}
use Rattle.nbt_look.proofs.heading.heading_of.Goals as goal

pub returns-in-Ok : goal.returns-in-Ok
returns-in-Ok c = rw c.if-port-eq137.true (names (header_value c.in-Ok.header) c.in-Ok.ensures.found)

pub returns-in-Err : goal.returns-in-Err
returns-in-Err c = rw c.if-port-eq137.true (no_names c.in-Err.ensures.fault.1)

pub returns-in-Some : goal.returns-in-Some
returns-in-Some c = rw (c.if-port-eq138.true, c.is_piece.ensures) (message c.in-Some.front c.in-Some.ensures.found)

pub returns-in-None : goal.returns-in-None
returns-in-None c = rw c.if-port-eq138.true (no_message c.in-None.ensures.found)

pub returns-in-Some-front_header : goal.returns-in-Some-front_header
returns-in-Some-front_header c =
    session c.args.port c.in-Some-front_header.header c.if-port-eq137.false c.if-port-eq138.false c.in-Some-front_header.ensures.found

pub returns-in-None-front_header : goal.returns-in-None-front_header
returns-in-None-front_header c = no_session c.args.port c.if-port-eq137.false c.if-port-eq138.false c.in-None-front_header.ensures.found
