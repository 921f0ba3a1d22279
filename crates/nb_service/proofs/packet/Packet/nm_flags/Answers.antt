use Rattle.bitflags.proofs.OnLiterals.{bitflags_on_literals}
use Rattle.nb_service.proofs.packet.Packet.nm_flags.Goals as goal

pub returns : goal.returns
unfolding bitflags_on_literals
returns c = rw (← c.self.view_is) (c.from_bits_truncate.ensures tt)
