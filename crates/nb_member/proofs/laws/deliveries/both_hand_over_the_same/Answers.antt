use Rattle.nb_member.proofs.Common.{[], cores, valid, deliveries}
use Rattle.nb_member.proofs.LiveLemmas.{TablesKnown}
use Rattle.nb_member.proofs.DeliveryLemmas.WholeKeys.{DatagramsKnown}
use Rattle.nb_member.proofs.AgreementLemmas.SameDeliveries.{first_once, second_once, the_same}
use Rattle.nb_member.proofs.laws.deliveries.both_hand_over_the_same.Goals as goal

pub returns : goal.returns
returns c =
    let tables : TablesKnown = record {
      of_two = c.table_of_two_lists_is_the_join.ensures;
      entries = c.table_has_the_entry_of_its_list.ensures;
      of_same = c.same_cores_make_the_same_table.ensures;
    } in
    let known : DatagramsKnown = record {
      of_two = c.table_of_two_lists_is_the_join.ensures;
      exact = c.datagram_has_the_bytes_of_its_entry.ensures;
    } in
    let once = first_once tables known c.table_is_spoilt_where_fragments_disagree.ensures in
    let once_there = second_once tables known c.table_is_spoilt_where_fragments_disagree.ensures in
    record {
      once = once;
      once_there = once_there;
      same = λ settings S T h names others.
          the_same names others (cores (valid S)) (deliveries settings names [] S) (deliveries settings others [] T)
          (once settings S T h names) (once_there settings S T h others);
    }
