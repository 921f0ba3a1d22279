use Rattle.nb_text.proofs.TellsLemmas.{session_told}
use Rattle.nb_text.proofs.sessions.tell_session.Goals as goal

pub returns-clause-told : goal.returns-clause-told
returns-clause-told g c =
    session_told g.S.Sink.after c.args.payload.now _ _ c.tell_parsed.result _ c.parse_lent.ensures.stands c.tell_parsed.ensures.told
