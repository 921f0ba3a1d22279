use Rattle.nb_calls.proofs.Common.{Ok, Err}
use Rattle.nb_calls.proofs.EntryLemmas.{one_entries}
use Rattle.nb_calls.proofs.ServiceLemmas.{HeaderLaws, ItemLaws, item_one}
use Rattle.nb_calls.proofs.laws.answers.services_have_one_answer.Goals as goal

pub returns-clause-packet : goal.returns-clause-packet
returns-clause-packet c payload (Ok a) (Ok b) (header, used, p, e) (other, size, q, d) =
    let same = c.one_packet.ensures payload p.packet q.packet used size p.stands q.stands in cc (e, d, same.0, same.1, p.outlined, q.outlined)
returns-clause-packet c payload (Ok a) (Err r) (header, used, p, e) (fault, q, d) = absurd (c.one_service_fault.ensures.alone payload fault p.packet used q p.stands)
returns-clause-packet c payload (Err r) (Ok a) (fault, q, d) (header, used, p, e) = absurd (c.one_service_fault.ensures.alone payload fault p.packet used q p.stands)
returns-clause-packet c payload (Err r) (Err s) (f, p, e) (g, q, d) = cc (e, d, c.one_service_fault.ensures.one payload f g p q)

pub returns-clause-item : goal.returns-clause-item
returns-clause-item c payload number at =
    let headers : HeaderLaws payload = record { one = c.one_header.ensures.one payload; whole = c.one_header.ensures.whole payload } in
    let laws : ItemLaws payload = record {
      one = c.one_item.ensures.one payload;
      apart = c.one_item.ensures.alone payload;
      one_fault = c.one_item.ensures.one_fault payload;
      counted = c.one_item.ensures.counted payload;
      extent = c.one_item.ensures.extent payload;
    } in
    item_one payload headers laws number at

pub returns-clause-items : goal.returns-clause-items
returns-clause-items c payload number place room = one_entries payload number place room (returns-clause-item c payload)
