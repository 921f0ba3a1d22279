use Rattle.std.proofs.Common.{◌-◌}
use Rattle.nb_streams.specs.declared.limits.TheConstants.{MAX_INTERRUPTS}
use Rattle.nb_streams.proofs.DeviceLemmas.{IsWaiting}
use Rattle.nb_streams.proofs.output.write_some.Given as goal

abbrev pub invariant-loop-interrupts : goal.invariant-loop-interrupts
invariant-loop-interrupts g l = IsWaiting (g.W.Write.contents l.fn.writer.inner) (g.W.Write.contents l.writer.inner) l.fn.writer.counts l.writer.counts l.interrupts

abbrev pub decreases-loop-interrupts : goal.decreases-loop-interrupts
decreases-loop-interrupts g l = MAX_INTERRUPTS - l.interrupts
