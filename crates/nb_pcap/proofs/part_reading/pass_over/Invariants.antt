use Rattle.std.proofs.Common.{◌-◌, length}
use Rattle.nb_pcap.proofs.PassLemmas.{IsPassing}
use Rattle.nb_pcap.proofs.part_reading.pass_over.Given as goal

abbrev pub invariant-pass : goal.invariant-pass
invariant-pass g l =
    IsPassing l.fn.room (g.R.Read.remaining l.fn.reader.inner) (g.R.Read.remaining l.reader.inner) l.fn.reader.counts l.reader.counts l.size l.left l.room

abbrev pub decreases-pass : goal.decreases-pass
decreases-pass g l = l.left - length l.room.rest
