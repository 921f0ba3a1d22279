use Rattle.nb_table.proofs.Wholeness.{whole_at_exactly}
use Rattle.nb_table.proofs.laws.whole_keys_have_a_datagram.Goals as goal

pub returns : goal.returns
returns c = whole_at_exactly
