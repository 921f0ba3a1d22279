use Rattle.std.proofs.Common.{◌+◌, ◌-◌, length}
use Rattle.nb_session.proofs.PacketReadingLemmas.{IsFilling}
use Rattle.nb_session.proofs.packet_reading.read_full.Given as goal

abbrev pub invariant-loop-filled : goal.invariant-loop-filled
invariant-loop-filled g l =
    IsFilling (g.R.Read.remaining l.fn.reader.inner) (g.R.Read.remaining l.reader.inner) l.fn.reader.counts l.reader.counts l.buf l.filled l.fn.interrupts l.interrupts

abbrev pub decreases-loop-filled : goal.decreases-loop-filled
decreases-loop-filled g l = (length l.buf - l.filled) + (1024 - l.interrupts)
