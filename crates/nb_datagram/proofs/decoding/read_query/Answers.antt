use Rattle.nb_datagram.proofs.ReadingLemmas.{query_there, query_named}
use Rattle.nb_datagram.proofs.decoding.read_query.Goals as goal

pub returns-in-Ok-clause-found : goal.returns-in-Ok-clause-found
returns-in-Ok-clause-found c =
    query_there _ c.args.header.now c.args.kind _ _ c.requires.header c.requires.form c.in-Ok.ensures.name.0 c.in-Ok.ensures.found

pub returns-in-Err-clause-fault : goal.returns-in-Err-clause-fault
returns-in-Err-clause-fault c = query_named _ c.args.header.now c.args.kind _ c.requires.header c.requires.form c.in-Err.ensures.fault
