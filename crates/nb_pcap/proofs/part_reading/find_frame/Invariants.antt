use Rattle.std.proofs.Common.{◌+◌, ◌-◌}
use Rattle.nb_pcap.proofs.SeekLemmas.{IsSeeking}
use Rattle.nb_pcap.proofs.part_reading.find_frame.Given as goal

abbrev pub invariant-parts : goal.invariant-parts
invariant-parts g l =
    IsSeeking l.fn.context l.fn.place l.fn.room (g.R.Read.remaining l.fn.reader.inner) (g.R.Read.remaining l.reader.inner) l.fn.reader.counts l.reader.counts
    l.context l.place l.room

abbrev pub decreases-parts : goal.decreases-parts
decreases-parts g l = (l.room.most - l.place) + (l.room.most - l.room.taken)
