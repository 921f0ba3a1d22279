use Rattle.nb_datagram.proofs.Common.{◌≡◌, rules, no_header, no_type, type_of}
use Rattle.std.proofs.lemmas.Result.{IfErr-weaker}
use Rattle.nb_datagram.proofs.ReadingLemmas.{header_type, direct_failed}
use Rattle.nb_datagram.proofs.decoding.read_packet.Goals as goal

pub returns-in_default-clause-fault : goal.returns-in_default-clause-fault
returns-in_default-clause-fault c = no_header c.in_default.ensures

pub returns-in-Some-Direct-clause-fault : goal.returns-in-Some-Direct-clause-fault
returns-in-Some-Direct-clause-fault c =
    let type : c.in-Some.header.message_type ≡ type_of c.in-Some-Direct.kind = search rules in
    IfErr-weaker c.read_direct.result _ _ (λ fault fails. direct_failed _ c.in-Some.header c.in-Some-Direct.kind fault c.in-Some.ensures type fails) c.read_direct.ensures.fault

pub returns-in-None-clause-fault : goal.returns-in-None-clause-fault
returns-in-None-clause-fault c = no_type _ (header_type _ c.in-Some.header c.in-Some.ensures) c.in-None.ensures
