use Rattle.std.proofs.Common.{refl}
use Rattle.nbt_look.proofs.laws.clock.Goals as goal

pub returns-clause-next : goal.returns-clause-next
returns-clause-next c = refl

pub returns-clause-pause : goal.returns-clause-pause
returns-clause-pause c = refl
