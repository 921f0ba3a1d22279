use Rattle.nb_calls.proofs.Common.{ℕ, List, subst}
use Rattle.nb_calls.specs.Sessions.{Stands, unknown_type, too_long, lacks, judged}
use Rattle.nb_calls.proofs.sessions.packet_of.Goals as goal

pub returns-in_default : goal.returns-in_default
returns-in_default c = unknown_type c.in_default.ensures

pub returns-then-body-gt-MAX_MESSAGE : goal.returns-then-body-gt-MAX_MESSAGE
returns-then-body-gt-MAX_MESSAGE c = too_long c.in-Some.kind c.in-Some.ensures c.if-body-gt-MAX_MESSAGE.true

pub returns-in-Ok : goal.returns-in-Ok
returns-in-Ok c =
    judged c.in-Some.kind _ c.in-Some.ensures c.if-body-gt-MAX_MESSAGE.false
    (subst (λ (b : List ℕ). Stands b c.judge.result) c.in-Ok.ensures c.judge.ensures)

pub returns-in-Err : goal.returns-in-Err
returns-in-Err c = lacks c.in-Some.kind c.in-Some.ensures c.if-body-gt-MAX_MESSAGE.false
