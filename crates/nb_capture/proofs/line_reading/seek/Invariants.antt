use Rattle.nb_capture.proofs.Common.{◌-◌, ◌≡◌, ◌⊎◌, IsOpen}
use Rattle.nb_capture.proofs.LineLemmas.Seeking.{IsSeeking}
use Rattle.nb_capture.proofs.line_reading.seek.Given as goal

abbrev pub invariant-loop-size : goal.invariant-loop-size
invariant-loop-size g l =
    IsSeeking l.fn.room (g.R.Read.remaining l.fn.reader.inner) (g.R.Read.remaining l.reader.inner) l.fn.reader.counts l.reader.counts l.room l.seen
    × (IsOpen l.fn.room.rest ⊎ (l.reader ≡ l.fn.reader))

abbrev pub decreases-loop-size : goal.decreases-loop-size
decreases-loop-size g l = l.fn.room.most - l.room.taken
