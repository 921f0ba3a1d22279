use Rattle.std.proofs.Common.{inl, inr, refl}
use Rattle.nb_capture.proofs.LineLemmas.Seeking.{front_open, seeking_first, seeking_on, turn_line, turn_too_long, turn_unreadable, turn_unheld}
use Rattle.nb_capture.proofs.LineLemmas.Ending.{all_seen, last_within, turn_end}
use Rattle.nb_capture.proofs.line_reading.seek.Goals as goal

pub loop-size-init : goal.loop-size-init
loop-size-init g c = (seeking_first _ _ _ c.requires.lent c.requires.taken, inr refl)

pub returns-in-Line-clause-reads : goal.returns-in-Line-clause-reads
returns-in-Line-clause-reads g c = turn_line _ _ _ _ _ _ _ _ _ c.loop-size.invariant.0 c.in-Line.ensures

pub returns-in-TooLong-clause-reads : goal.returns-in-TooLong-clause-reads
returns-in-TooLong-clause-reads g c = turn_too_long _ _ _ _ _ _ _ _ c.loop-size.invariant.0 c.in-TooLong.ensures

pub loop-size-preserved : goal.loop-size-preserved
loop-size-preserved g c = (
  seeking_on _ _ _ _ _ _ _ _ _ _ _ _ _ c.loop-size.invariant.0 c.in-Open.ensures c.in-Ok.ensures,
  inl (front_open _ _ _ c.loop-size.invariant.0.rest c.in-Open.ensures.0),
)

pub last_of-requires : goal.last_of-requires
last_of-requires g c = all_seen _ _ _ _ _ _ _ _ _ c.in-Open.ensures c.in-Ok-eq0.ensures (cc c.in-Ok-eq0.field-0-is)

pub returns-in-Ok-eq0-clause-reads : goal.returns-in-Ok-eq0-clause-reads
returns-in-Ok-eq0-clause-reads g c = turn_end _ _ _ _ _ _ _ _ _ _ _ _ _ _ _ c.loop-size.invariant.0 c.in-Open.ensures c.in-Ok-eq0.ensures (cc c.in-Ok-eq0.field-0-is) c.last_of.ensures.room c.last_of.ensures.line

pub returns-in-Ok-eq0-clause-within : goal.returns-in-Ok-eq0-clause-within
returns-in-Ok-eq0-clause-within g c =
    last_within c.read_more.new.self _ _ _ (all_seen _ _ _ _ _ _ _ _ _ c.in-Open.ensures c.in-Ok-eq0.ensures (cc c.in-Ok-eq0.field-0-is)) c.last_of.ensures.room c.last_of.ensures.line

pub returns-in-Ok-eq0-clause-waits : goal.returns-in-Ok-eq0-clause-waits
returns-in-Ok-eq0-clause-waits g c = inl (front_open _ _ _ c.loop-size.invariant.0.rest c.in-Open.ensures.0)

pub returns-in-Err-Read-clause-reads : goal.returns-in-Err-Read-clause-reads
returns-in-Err-Read-clause-reads g c = turn_unreadable _ _ _ _ _ _ _ _ _ _ _ _ c.loop-size.invariant.0 c.in-Open.ensures _ (cc c.in-Err-Read.field-0-is) c.in-Err-Read.ensures

pub returns-in-Err-Read-clause-waits : goal.returns-in-Err-Read-clause-waits
returns-in-Err-Read-clause-waits g c = inl (front_open _ _ _ c.loop-size.invariant.0.rest c.in-Open.ensures.0)

pub returns-in-Err-NoMemory-clause-reads : goal.returns-in-Err-NoMemory-clause-reads
returns-in-Err-NoMemory-clause-reads g c = turn_unheld _ _ _ _ _ _ _ _ _ _ _ _ c.loop-size.invariant.0 c.in-Open.ensures _ (cc c.in-Err-NoMemory.field-0-is) c.in-Err-NoMemory.ensures

pub returns-in-Err-NoMemory-clause-waits : goal.returns-in-Err-NoMemory-clause-waits
returns-in-Err-NoMemory-clause-waits g c = inl (front_open _ _ _ c.loop-size.invariant.0.rest c.in-Open.ensures.0)
