use Rattle.nb_member.proofs.EventLemmas.{each_says, all_say}
use Rattle.nb_member.proofs.laws.each_event_says_something.Goals as goal

pub returns : goal.returns
returns c = record { event = each_says c.packet_or_fault.ensures; events = all_say c.packet_or_fault.ensures }
