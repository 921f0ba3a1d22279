use Rattle.std.proofs.Common.{length}
use Rattle.nb_streams.proofs.DeviceLemmas.{IsWritingDigits}
use Rattle.nb_streams.proofs.output.write_digits.Given as goal

abbrev pub invariant-parts : goal.invariant-parts
invariant-parts g l = IsWritingDigits (g.W.Write.contents l.fn.writer.inner) (g.W.Write.contents l.writer.inner) l.fn.writer.counts l.writer.counts l.bytes l.rest

abbrev pub decreases-parts : goal.decreases-parts
decreases-parts g l = length l.rest
