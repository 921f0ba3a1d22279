use Rattle.nb_names.specs.NameFacts.{name_eq_decides}
use Rattle.nb_names.proofs.lent_name.LentNamePartialEq.eq.Goals as goal

pub returns-clause-same : goal.returns-clause-same
returns-clause-same c = rw c.is_same.ensures (name_eq_decides c.args.self.now c.args.other.now)
