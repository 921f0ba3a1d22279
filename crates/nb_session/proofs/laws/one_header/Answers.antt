use Rattle.nb_session.proofs.HeaderLemmas.{one_header, header_within}
use Rattle.nb_session.proofs.laws.one_header.Goals as goal

pub returns-clause-one : goal.returns-clause-one
returns-clause-one c = one_header

pub returns-clause-whole : goal.returns-clause-whole
returns-clause-whole c = header_within
