use Rattle.nbt_usage.proofs.Common.{refl}
use Rattle.std.specs.Fmt.{digits}
use Rattle.nbt_usage.proofs.laws.limits_are_these_numbers.Goals as goal

pub returns-clause-usual : goal.returns-clause-usual
unfolding digits
returns-clause-usual c = (refl, refl)
