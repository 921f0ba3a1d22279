use Rattle.nb_capture.proofs.LineLemmas.Seeking.{is_room, turn_ended, turn_unread, turn_long}
use Rattle.nb_capture.proofs.line_reading.advance.Goals as goal

pub invariant_of-lines : goal.invariant_of-lines
invariant_of-lines g c = is_room _ _ _ _ _ _ _ _ c.seek-standing.ensures.reads

pub returns-in-Ended-clause-reads : goal.returns-in-Ended-clause-reads
returns-in-Ended-clause-reads g c = turn_ended _ _ _ _ _ _ c.lines.view_is c.let_go.ensures c.lines.invariant (cc c.in-Ended.is)

pub returns-in-Unread-clause-reads : goal.returns-in-Unread-clause-reads
returns-in-Unread-clause-reads g c = turn_unread _ _ _ _ _ _ c.lines.view_is c.let_go.ensures c.lines.invariant (cc c.in-Unread.is)

pub returns-in-TooLong-clause-reads : goal.returns-in-TooLong-clause-reads
returns-in-TooLong-clause-reads g c = turn_long _ _ _ _ _ _ c.lines.view_is c.let_go.ensures c.lines.invariant (cc c.in-TooLong.is)
