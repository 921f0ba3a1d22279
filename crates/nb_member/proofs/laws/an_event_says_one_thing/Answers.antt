use Rattle.nb_member.proofs.EventLemmas.{PacketsKnown, one_saying, one_sayings}
use Rattle.nb_member.proofs.laws.an_event_says_one_thing.Goals as goal

pub returns : goal.returns
returns c =
    let known : PacketsKnown = record {
      one = c.one_packet.ensures;
      alone = c.one_datagram_fault.ensures.alone;
      one_fault = c.one_datagram_fault.ensures.one;
    } in
    record { event = one_saying known; events = one_sayings known }
