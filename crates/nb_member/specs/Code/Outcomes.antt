-- Outcomes in whose datagram the names are lent (our choice).
use Rattle.std.specs.Prelude.{Result, Ok, Err}
use Rattle.nb_datagram.specs.Fragment.{datagram_by}
use Rattle.nb_member.specs.declared.outcome.MemberFault.{MemberFault}
use Rattle.nb_member.specs.declared.outcome.LentOutcome.{LentOutcome}
use Rattle.nb_member.specs.declared.outcome.LentOutcome.TheVariants as lent
use Rattle.nb_member.specs.declared.outcome.Outcome.{Outcome}
use Rattle.nb_member.specs.declared.outcome.Outcome.TheVariants.{Delivered, Unheard, Kept, Spoilt, Other}

-- the outcome, with the datagram's names in place
abbrev pub made_of : LentOutcome → Outcome
made_of (lent.Kept k) = Kept k
made_of (lent.Spoilt k) = Spoilt k
made_of (lent.Delivered f bytes) = Delivered (datagram_by f bytes)
made_of (lent.Unheard k error) = Unheard k error
made_of lent.Other = Other

-- the answer, with them in place
abbrev pub answer_of : Result LentOutcome MemberFault → Result Outcome MemberFault
answer_of (Ok outcome) = Ok (made_of outcome)
answer_of (Err fault) = Err fault
