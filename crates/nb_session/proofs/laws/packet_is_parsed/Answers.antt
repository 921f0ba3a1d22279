use Rattle.nb_session.proofs.ParsingLemmas.{packet_parses, front_lacks_header, front_lacks_body}
use Rattle.nb_session.proofs.laws.packet_is_parsed.Goals as goal

pub returns-clause-whole : goal.returns-clause-whole
returns-clause-whole c packet bytes rest is = packet_parses packet bytes rest is

pub returns-clause-header : goal.returns-clause-header
returns-clause-header c packet bytes count is few = front_lacks_header packet bytes count is few

pub returns-clause-body : goal.returns-clause-body
returns-clause-body c packet bytes count is some few = front_lacks_body packet bytes count is some few
