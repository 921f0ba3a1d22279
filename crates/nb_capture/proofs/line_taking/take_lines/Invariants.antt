use Rattle.std.proofs.Common.{◌≡◌, ◌+◌, ◌-◌, length}
use Rattle.nb_capture.proofs.LineTakingLemmas.{IsTaking}
use Rattle.nb_capture.proofs.line_taking.take_lines.Given as goal

abbrev pub invariant-lines : goal.invariant-lines
invariant-lines g l = record {
  taking : IsTaking (g.T.LineTaker.takes (g.T.LineTaker.beside l.fn.taker)) l.fn.most (g.R.Read.remaining l.fn.reader.inner) (g.R.Read.remaining l.reader.inner)
      l.fn.reader.counts l.reader.counts l.room l.number (g.T.LineTaker.state l.fn.taker) (g.T.LineTaker.state l.taker);
  same : g.T.LineTaker.beside l.taker ≡ g.T.LineTaker.beside l.fn.taker;
}

abbrev pub decreases-lines : goal.decreases-lines
decreases-lines g l = (l.room.most - l.room.taken) + length l.room.rest
