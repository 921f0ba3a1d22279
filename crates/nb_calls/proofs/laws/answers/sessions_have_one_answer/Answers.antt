use Rattle.nb_calls.proofs.Common.{Parses, answer_by, names_answer, retarget_answer, session_answer}
use Rattle.nb_calls.proofs.AnswerLemmas.{one_of}
use Rattle.nb_calls.proofs.FrameLemmas.{one_writes}
use Rattle.nb_calls.proofs.laws.answers.sessions_have_one_answer.Goals as goal

pub returns-clause-packet : goal.returns-clause-packet
returns-clause-packet c bytes = one_of (Parses bytes) (c.one_answer.ensures.one bytes) (answer_by session_answer)

pub returns-clause-names : goal.returns-clause-names
returns-clause-names c bytes = one_of (Parses bytes) (c.one_answer.ensures.one bytes) (answer_by (λ packet used. names_answer packet))

pub returns-clause-retarget : goal.returns-clause-retarget
returns-clause-retarget c bytes = one_of (Parses bytes) (c.one_answer.ensures.one bytes) (answer_by (λ packet used. retarget_answer packet))

pub returns-clause-written : goal.returns-clause-written
returns-clause-written c packet_type body = one_writes packet_type body c.one_answer.ensures.one
