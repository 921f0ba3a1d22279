use Rattle.nb_member.proofs.MemberLemmas.LiveAfter.{stands_left}
use Rattle.nb_member.proofs.laws.a_member_drops_what_the_clock_ends.Goals as goal

pub returns : goal.returns
returns c = stands_left c.keeping_keys_keeps_their_fragments.ensures
