use Rattle.std.proofs.Common.{length, ◌-◌}
use Rattle.nb_streams.proofs.DeviceLemmas.{IsWriting}
use Rattle.nb_streams.proofs.output.write_whole.Given as goal

abbrev pub invariant-loop-written : goal.invariant-loop-written
invariant-loop-written g l = IsWriting (g.W.Write.contents l.fn.writer.inner) (g.W.Write.contents l.writer.inner) l.fn.writer.counts l.writer.counts l.bytes l.written

abbrev pub decreases-loop-written : goal.decreases-loop-written
decreases-loop-written g l = length l.bytes - l.written
