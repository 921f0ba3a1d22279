use Rattle.bitflags.proofs.OnLiterals.{bitflags_on_literals}
use Rattle.nb_service.proofs.views.NodeName.node_flags.Goals as goal

pub returns : goal.returns
unfolding bitflags_on_literals
returns c = c.from_bits_truncate.ensures tt
