use Rattle.nb_calls.proofs.Common.{ℕ, List, NameAt, Refused, cut_names, query_answer, request_answer}
use Rattle.nb_calls.proofs.AnswerLemmas.{one_else}
use Rattle.nb_calls.proofs.NameLemmas.{TextLaws, one_by_two, one_read, one_whole}
use Rattle.nb_calls.proofs.ResponseLemmas.{one_response}
use Rattle.nb_calls.specs.Names.{IsRead}
use Rattle.nb_names.specs.NameFaults.{FaultAt as NameFaultAt}
use Rattle.nb_calls.proofs.laws.answers.written_packets_have_one_answer.Goals as goal

pub returns-clause-pieces : goal.returns-clause-pieces
returns-clause-pieces c sent source destination contents =
    let laws : (t : List ℕ) → TextLaws t = λ t. record { one = c.one_name.ensures t; one_fault = c.one_text_fault.ensures.one t; apart = c.one_text_fault.ensures.none t } in
    one_by_two source destination (laws source) (laws destination) (λ from to. cut_names sent from to contents)

pub returns-clause-query : goal.returns-clause-query
returns-clause-query c packet_type key t =
    let laws : TextLaws t = record { one = c.one_name.ensures t; one_fault = c.one_text_fault.ensures.one t; apart = c.one_text_fault.ensures.none t } in
    one_else (IsRead t) (one_read t laws) (query_answer packet_type key)

pub returns-clause-request : goal.returns-clause-request
returns-clause-request c asked t =
    let laws : TextLaws t = record { one = c.one_name.ensures t; one_fault = c.one_text_fault.ensures.one t; apart = c.one_text_fault.ensures.none t } in
    one_else (IsRead t) (one_read t laws) (request_answer asked)

pub returns-clause-response : goal.returns-clause-response
returns-clause-response c answered t contents =
    let laws : TextLaws t = record { one = c.one_name.ensures t; one_fault = c.one_text_fault.ensures.one t; apart = c.one_text_fault.ensures.none t } in
    one_response contents (one_whole (NameAt contents Refused 0) (NameFaultAt contents Refused 0) contents
    (c.one_reading.ensures.one contents Refused 0) (c.one_fault.ensures.one contents Refused 0) (c.one_fault.ensures.alone contents Refused 0)) answered t laws
