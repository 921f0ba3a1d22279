use Rattle.std.proofs.Common.{◌-◌}
use Rattle.nb_streams.specs.declared.limits.TheConstants.{MAX_INTERRUPTS}
use Rattle.nb_streams.proofs.DeviceLemmas.{IsWaiting}
use Rattle.nb_streams.proofs.input.read_some.Given as goal

abbrev pub invariant-loop-interrupts : goal.invariant-loop-interrupts
invariant-loop-interrupts g l = IsWaiting (g.R.Read.remaining l.fn.reader.inner) (g.R.Read.remaining l.reader.inner) l.fn.reader.counts l.reader.counts l.interrupts

abbrev pub decreases-loop-interrupts : goal.decreases-loop-interrupts
decreases-loop-interrupts g l = MAX_INTERRUPTS - l.interrupts
