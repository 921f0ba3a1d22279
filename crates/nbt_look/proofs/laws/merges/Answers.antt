use Rattle.nbt_look.proofs.MergingLemmas.{ascends, of_each, of_one}
use Rattle.nbt_look.proofs.laws.merges.Goals as goal

pub returns-clause-each : goal.returns-clause-each
returns-clause-each c = of_each

pub returns-clause-ascending : goal.returns-clause-ascending
returns-clause-ascending c = ascends

pub returns-clause-alone : goal.returns-clause-alone
returns-clause-alone c = of_one
