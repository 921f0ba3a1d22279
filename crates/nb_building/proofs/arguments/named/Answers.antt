use Rattle.nb_building.proofs.Common.{refl}
use Rattle.nb_building.proofs.arguments.named.Goals as goal

pub returns-in-Err-clause-refused : goal.returns-in-Err-clause-refused
returns-in-Err-clause-refused c = record { of = c.in-Err.fault; is = refl; told = c.in-Err.ensures.fault; none = c.in-Err.ensures.only }
