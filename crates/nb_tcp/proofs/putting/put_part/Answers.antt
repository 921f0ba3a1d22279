use Rattle.std.proofs.Common.{arith}
use Rattle.nb_tcp.proofs.PartLemmas.{puts_known}
use Rattle.nb_tcp.proofs.putting.put_part.Goals as goal

pub returns-in-Some-clause-ok : goal.returns-in-Some-clause-ok
returns-in-Some-clause-ok c = puts_known _ _ c.in-Some.known.now _ c.min.result c.in-Some.ensures.some (omega (arith, c.min.ensures))
