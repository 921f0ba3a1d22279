use Rattle.nbt_look.specs.Asking.{first_bits}
use Rattle.nbt_look.proofs.asking.prefix_of.Goals as goal

pub returns-else-width_of-bits : goal.returns-else-width_of-bits
returns-else-width_of-bits c = first_bits _ _ c.in-Some.ensures c.in_ok-start-in-Some.ensures c.in_ok-bits-in-Some.ensures (rw (← c.width_of-in-Some.ensures) c.if-width_of-bits.false)
