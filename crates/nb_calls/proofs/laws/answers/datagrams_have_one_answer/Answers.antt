use Rattle.nb_calls.proofs.Common.{Ok, Err}
use Rattle.nb_calls.proofs.laws.answers.datagrams_have_one_answer.Goals as goal

pub returns-clause-packet : goal.returns-clause-packet
returns-clause-packet c payload (Ok a) (Ok b) (packet, used, p, e) (other, size, q, d) =
    let same = c.one_packet.ensures payload packet other used size p q in cc (e, d, same.0, same.1)
returns-clause-packet c payload (Ok a) (Err r) (packet, used, p, e) (fault, q, d) = absurd (c.one_datagram_fault.ensures.alone payload fault packet used q p)
returns-clause-packet c payload (Err r) (Ok a) (fault, q, d) (packet, used, p, e) = absurd (c.one_datagram_fault.ensures.alone payload fault packet used q p)
returns-clause-packet c payload (Err r) (Err s) (f, p, e) (g, q, d) = cc (e, d, c.one_datagram_fault.ensures.one payload f g p q)
