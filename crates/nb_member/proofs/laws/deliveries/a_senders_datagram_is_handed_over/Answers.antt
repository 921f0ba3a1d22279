use Rattle.nb_member.proofs.Common.{[], cores, valid, deliveries}
use Rattle.nb_member.proofs.AgreementLemmas.SameDeliveries.{senders}
use Rattle.nb_member.proofs.laws.deliveries.a_senders_datagram_is_handed_over.Goals as goal

pub returns : goal.returns
returns c =
    let cut = senders c.parts_are_not_spoilt.ensures.list c.all_parts_give_the_datagram.ensures in
    let once = c.both_hand_over_the_same.ensures in
    record {
      here = λ settings S T h names. cut names (cores (valid S)) (deliveries settings names [] S) (once.once settings S T h names);
      there = λ settings S T h names. cut names (cores (valid S)) (deliveries settings names [] T) (once.once_there settings S T h names);
    }
