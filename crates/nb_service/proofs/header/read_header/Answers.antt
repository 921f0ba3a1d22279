use Rattle.std.proofs.Common.{arith}
use Rattle.nb_service.proofs.header.read_header.Goals as goal

pub returns-then-packet-lt-HEADER_LENGTH-clause-only : goal.returns-then-packet-lt-HEADER_LENGTH-clause-only
returns-then-packet-lt-HEADER_LENGTH-clause-only c header there =
    absurd (omega (arith, c.one_header.ensures.whole _ header there, c.if-packet-lt-HEADER_LENGTH.true))
