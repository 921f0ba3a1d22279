-- Equality tells equal questions, records and packets apart from others, for the laws of traits.
use Rattle.std.proofs.Common.{◌≡◌, true, refl, ap, sym, ◌∙◌}
use Rattle.std.specs.Bool.{Decides}
use Rattle.std.specs.Cmp.{unsigned_Decides}
use Rattle.std.specs.Cmp.Lexicographic.{pointwise_decides}
use Rattle.nb_streams.specs.DecidedFacts.{bytes_decide, decided_both, decided_by_view}
use Rattle.nb_names.specs.NameFacts.{domain_eq_decides}
use Rattle.nb_service.specs.declared.record.Question.{Question}
use Rattle.nb_service.specs.Record.{ResourceData, of_bytes, of_domain, ResourceRecord}
use Rattle.nb_service.specs.Packet.{ServicePacket}
use Rattle.nb_service.specs.Equality.{question_eq, rdata_eq, record_eq, packet_eq}

pub question_eq_decides : (a b : Question) → Decides (question_eq a b) (a ≡ b)
question_eq_decides =
    decided_by_view (λ (q : Question). (q.name, (q.kind, q.class))) (λ p. record { name = p.0; kind = p.1.0; class = p.1.1 }) (λ _. refl)
    (decided_both domain_eq_decides (decided_both unsigned_Decides unsigned_Decides))

rdata_eq_same : (a b : ResourceData) → rdata_eq a b ≡ true → a ≡ b
rdata_eq_same (of_bytes xs) (of_bytes ys) h = ap of_bytes ((bytes_decide xs ys).0 h)
rdata_eq_same (of_bytes xs) (of_domain ms) h = absurd (cc)
rdata_eq_same (of_domain ls) (of_bytes ys) h = absurd (cc)
rdata_eq_same (of_domain ls) (of_domain ms) h = ap of_domain ((domain_eq_decides ls ms).0 h)

rdata_eq_itself : (a : ResourceData) → rdata_eq a a ≡ true
rdata_eq_itself (of_bytes xs) = (bytes_decide xs xs).1 refl
rdata_eq_itself (of_domain ls) = (domain_eq_decides ls ls).1 refl

pub rdata_eq_decides : (a b : ResourceData) → Decides (rdata_eq a b) (a ≡ b)
rdata_eq_decides a b = (rdata_eq_same a b, λ e. ap (rdata_eq a) (sym e) ∙ rdata_eq_itself a)

pub record_eq_decides : (a b : ResourceRecord) → Decides (record_eq a b) (a ≡ b)
record_eq_decides =
    decided_by_view (λ (r : ResourceRecord). (r.name, (r.kind, (r.class, (r.ttl, r.rdata)))))
    (λ p. record { name = p.0; kind = p.1.0; class = p.1.1.0; ttl = p.1.1.1.0; rdata = p.1.1.1.1 }) (λ _. refl)
    (decided_both domain_eq_decides (decided_both unsigned_Decides (decided_both unsigned_Decides
    (decided_both unsigned_Decides rdata_eq_decides))))

pub packet_eq_decides : (a b : ServicePacket) → Decides (packet_eq a b) (a ≡ b)
packet_eq_decides =
    let records_decide = pointwise_decides record_eq_decides in
    decided_by_view
    (λ (p : ServicePacket). (p.id, (p.word, (p.questions, (p.answers, (p.authorities, p.additional))))))
    (λ p. record { id = p.0; word = p.1.0; questions = p.1.1.0; answers = p.1.1.1.0; authorities = p.1.1.1.1.0; additional = p.1.1.1.1.1 })
    (λ _. refl)
    (decided_both unsigned_Decides (decided_both unsigned_Decides (decided_both (pointwise_decides question_eq_decides)
    (decided_both records_decide (decided_both records_decide records_decide)))))

pub ruleset decides = (question_eq_decides, record_eq_decides, packet_eq_decides)
