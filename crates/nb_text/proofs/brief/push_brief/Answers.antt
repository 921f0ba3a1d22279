use Rattle.nb_text.proofs.brief.push_brief.Goals as goal

pub returns-clause-front : goal.returns-clause-front
returns-clause-front c = (c.push_session.ensures c.args.port c.if-port-eq137.false c.if-port-eq138.false).1
