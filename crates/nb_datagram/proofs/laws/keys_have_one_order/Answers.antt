use Rattle.nb_datagram.specs.Key.{key_cmp_total, key_cmp_exact, same_key_decides}
use Rattle.nb_datagram.proofs.laws.keys_have_one_order.Goals as goal

pub returns-clause-total : goal.returns-clause-total
returns-clause-total c = key_cmp_total

pub returns-clause-exact : goal.returns-clause-exact
returns-clause-exact c = key_cmp_exact

pub returns-clause-same : goal.returns-clause-same
returns-clause-same c = same_key_decides
