use Rattle.nb_member.proofs.EventLemmas.{PacketsKnown}
use Rattle.nb_member.proofs.TakingLemmas.Payloads.{says_and_does, does_what_is_said, room_where_no_memory, refused_keeps}
use Rattle.nb_member.proofs.laws.a_member_does_what_is_said.Goals as goal

pub returns : goal.returns
returns c =
    let known : PacketsKnown = record {
      one = c.one_packet.ensures;
      alone = c.one_datagram_fault.ensures.alone;
      one_fault = c.one_datagram_fault.ensures.one;
    } in
    let of_two = c.table_of_two_lists_is_the_join.ensures in
    record {
      says = λ m new L moment payload result stands takes.
          let t = says_and_does of_two m L moment payload new result stands takes in (t.said, t.says);
      does = does_what_is_said known of_two;
      memory = room_where_no_memory known of_two;
      refused = refused_keeps;
    }
