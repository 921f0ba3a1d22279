use Rattle.std.proofs.Common.{◌-◌, ◌+◌, length}
use Rattle.nb_streams.specs.declared.limits.TheConstants.{MAX_INPUT}
use Rattle.nb_streams.proofs.DeviceLemmas.{IsReading}
use Rattle.nb_streams.proofs.input.read_all.Given as goal

abbrev pub invariant-loop-chunk : goal.invariant-loop-chunk
invariant-loop-chunk g l = IsReading (g.R.Read.remaining l.fn.reader.inner) (g.R.Read.remaining l.reader.inner) l.fn.reader.counts l.reader.counts l.bytes.items

abbrev pub decreases-loop-chunk : goal.decreases-loop-chunk
decreases-loop-chunk g l = MAX_INPUT + 1 - length l.bytes.items
