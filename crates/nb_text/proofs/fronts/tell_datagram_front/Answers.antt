use Rattle.std.proofs.Common.{[], refl}
use Rattle.std.proofs.lemmas.Result.{on_ok_weaker}
use Rattle.nb_text.specs.FrontFields.{datagram_front_fields}
use Rattle.nb_text.specs.TellsFront.{datagram, no_datagram_header, datagram_front}
use Rattle.nb_text.proofs.fronts.tell_datagram_front.Goals as goal

pub returns-in-Ok-clause-told : goal.returns-in-Ok-clause-told
returns-in-Ok-clause-told g c = ([], datagram _ _ c.in-Ok.ensures.found, refl)

pub returns-in-Some-clause-told : goal.returns-in-Some-clause-told
returns-in-Some-clause-told g c =
    let front = c.in-Some.front in
    on_ok_weaker c.tell_datagram_line.result
    (λ told. (datagram_front_fields front, datagram_front _ front c.in-Err.ensures.fault c.in-Some.ensures.found, told)) c.tell_datagram_line.ensures.told

pub returns-in-None-clause-told : goal.returns-in-None-clause-told
returns-in-None-clause-told g c = ([], no_datagram_header _ c.in-Err.ensures.fault c.in-None.ensures.found, refl)
