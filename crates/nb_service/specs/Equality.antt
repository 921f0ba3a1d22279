-- When questions, records and packets are equal (our choice): where all of their parts are. Bytes are
-- compared one by one.
use Rattle.std.specs.Prelude.{◌==◌, ◌&&◌, Bool, false}
use Rattle.std.specs.Cmp.Lexicographic.{pointwise}
use Rattle.nb_names.specs.DomainName.{domain_eq}
use Rattle.nb_service.specs.declared.record.Question.{Question}
use Rattle.nb_service.specs.Record.{ResourceData, of_bytes, of_domain, ResourceRecord}
use Rattle.nb_service.specs.Packet.{ServicePacket}

-- whether two questions are equal
abbrev pub question_eq : Question → Question → Bool
question_eq a b = domain_eq a.name b.name && (a.kind == b.kind && a.class == b.class)

-- whether two RDATA are equal
abbrev pub rdata_eq : ResourceData → ResourceData → Bool
rdata_eq (of_bytes bytes) (of_bytes others) = pointwise ◌==◌ bytes others
rdata_eq (of_domain labels) (of_domain others) = domain_eq labels others
rdata_eq (of_bytes bytes) (of_domain labels) = false
rdata_eq (of_domain labels) (of_bytes bytes) = false

-- whether two records are equal
abbrev pub record_eq : ResourceRecord → ResourceRecord → Bool
record_eq a b =
    domain_eq a.name b.name
    && (a.kind == b.kind && (a.class == b.class && (a.ttl == b.ttl && rdata_eq a.rdata b.rdata)))

-- whether two packets are equal
abbrev pub packet_eq : ServicePacket → ServicePacket → Bool
packet_eq a b =
    a.id == b.id
    && (a.word == b.word
    && (pointwise question_eq a.questions b.questions
    && (pointwise record_eq a.answers b.answers
    && (pointwise record_eq a.authorities b.authorities && pointwise record_eq a.additional b.additional))))
