use Rattle.nb_building.proofs.Common.{arith}
use Rattle.nb_building.proofs.ArgumentLemmas.{narrowed}
use Rattle.nb_building.proofs.arguments.number.Goals as goal

pub returns : goal.returns
returns c = narrowed 65535 _ _ _ c.try_from.result c.or.result (omega arith) c.in_ok-long_number.ensures c.try_from.ensures c.or.ensures
