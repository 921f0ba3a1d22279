use Rattle.nb_traffic.proofs.FollowLemmas.{follows_on}
use Rattle.nb_traffic.proofs.laws.frames_follow_one_another.Goals as goal

pub returns : goal.returns
returns c = λ frames frame brought old new follows brings. follows_on frames frame brought old new follows brings
