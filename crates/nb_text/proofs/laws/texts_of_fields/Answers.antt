use Rattle.nb_text.proofs.FormFields.{service_says, datagram_says, session_says, refused_says}
use Rattle.nb_text.proofs.laws.texts_of_fields.Goals as goal

pub returns-clause-services : goal.returns-clause-services
returns-clause-services c = λ packet used. (service_says packet used).same

pub returns-clause-datagrams : goal.returns-clause-datagrams
returns-clause-datagrams c = λ packet used. (datagram_says {depth = 0} packet used).same

pub returns-clause-sessions : goal.returns-clause-sessions
returns-clause-sessions c = λ parsed. (session_says {depth = 0} parsed).same

pub returns-clause-refusals : goal.returns-clause-refusals
returns-clause-refusals c = λ fault place. (refused_says {depth = 0} fault place).same
