use Rattle.std.proofs.Common.{[]}
use Rattle.nb_member.proofs.LiveLemmas.{live_is_all, live_is_valid}
use Rattle.nb_member.proofs.laws.live_fragments_are_the_valid_ones.Goals as goal

pub returns : goal.returns
returns c = record { fragments = λ settings S. live_is_all settings [] S; cores = λ settings S. live_is_valid settings [] S }
