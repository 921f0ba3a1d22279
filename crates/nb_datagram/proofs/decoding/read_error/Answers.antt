use Rattle.nb_datagram.proofs.Common.{arith, subst, HasType, no_code}
use Rattle.nb_datagram.proofs.ReadingLemmas.{header_type, error_there}
use Rattle.nb_datagram.proofs.decoding.read_error.Goals as goal

pub returns-then-bytes-lt-ERROR_LENGTH-clause-fault : goal.returns-then-bytes-lt-ERROR_LENGTH-clause-fault
returns-then-bytes-lt-ERROR_LENGTH-clause-fault c =
    no_code (subst (HasType c.args.bytes.now) c.requires.form (header_type _ _ c.requires.header)) c.if-bytes-lt-ERROR_LENGTH.true

pub returns-clause-found : goal.returns-clause-found
returns-clause-found c = error_there _ c.args.header.now c.requires.header c.requires.form (omega arith)
