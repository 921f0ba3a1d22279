use Rattle.std.proofs.Common.{[], refl}
use Rattle.std.proofs.lemmas.Result.{on_ok_weaker}
use Rattle.nb_text.specs.FrontFields.{session_front_fields}
use Rattle.nb_text.specs.TellsFront.{no_session_header, session_front}
use Rattle.nb_text.proofs.fronts.tell_session_header.Goals as goal

pub returns-in-Some-clause-told : goal.returns-in-Some-clause-told
returns-in-Some-clause-told g c =
    let header = c.in-Some.header in
    on_ok_weaker c.tell_session_line.result
    (λ told port a b. (session_front_fields header, session_front port c.requires.0 header a b c.requires.1 c.requires.2 c.in-Some.ensures.found, told))
    c.tell_session_line.ensures.told

pub returns-in-None-clause-told : goal.returns-in-None-clause-told
returns-in-None-clause-told g c port a b = ([], no_session_header port a b c.in-None.ensures.found, refl)
