use Rattle.nb_calls.proofs.Common.{NameAt, Refused, labels_of_name, IsName, spelling_answer, text_answer, IsSpelling}
use Rattle.nb_names.specs.NameFaults.{NetbiosFaultAt}
use Rattle.nb_calls.proofs.AnswerLemmas.{one_else}
use Rattle.nb_calls.proofs.NameLemmas.{TextLaws, one_read, one_whole}
use Rattle.nb_calls.specs.Names.{IsRead}
use Rattle.nb_calls.proofs.laws.answers.names_have_one_answer.Goals as goal

pub returns-clause-spells : goal.returns-clause-spells
returns-clause-spells c t =
    let laws : TextLaws t = record { one = c.one_name.ensures t; one_fault = c.one_text_fault.ensures.one t; apart = c.one_text_fault.ensures.none t } in
    one_else (IsRead t) (one_read t laws) spelling_answer

pub returns-clause-tells : goal.returns-clause-tells
returns-clause-tells c bytes =
    one_else (IsSpelling bytes)
    (one_whole (λ name next. IsName name × NameAt bytes Refused 0 (labels_of_name name) next) (NetbiosFaultAt bytes Refused 0) bytes
    (λ n m a b p q. let same = c.one_reading.ensures.one bytes Refused 0 _ _ a b p.1 q.1 in (c.labels_tell_the_name.ensures.one n m same.0, same.1))
    (c.one_netbios_fault.ensures.one bytes Refused 0) (λ f n a fails p. c.one_netbios_fault.ensures.alone bytes Refused 0 f n a fails p.0 p.1)) text_answer
