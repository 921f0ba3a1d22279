use Rattle.nb_member.proofs.DeliveryLemmas.WholeKeys.{DatagramsKnown, all_of_key, all_from_none, all_heard_from_none}
use Rattle.nb_member.proofs.laws.deliveries.a_whole_key_is_handed_over_once.Goals as goal

pub returns : goal.returns
returns c =
    let known : DatagramsKnown = record {
      of_two = c.table_of_two_lists_is_the_join.ensures;
      exact = c.datagram_has_the_bytes_of_its_entry.ensures;
    } in
    record { made = all_from_none known; handed = all_heard_from_none known; later = all_of_key known }
