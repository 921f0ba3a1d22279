use Rattle.std.proofs.Common.{refl, arith, rules}
use Rattle.nb_session.proofs.PacketReadingLemmas.{filled_more}
use Rattle.nb_session.proofs.packet_reading.read_full.Goals as goal

pub loop-filled-preserved-in-Bytes : goal.loop-filled-preserved-in-Bytes
loop-filled-preserved-in-Bytes g c =
    filled_more _ _ _ _ _ _ _ _ _ _ _ c.in-Bytes.count c.read.new.buf c.loop-filled.invariant refl (search rules) (omega arith) c.in-Bytes.ensures.bytes.0 c.in-Bytes.ensures.bytes.1 c.in-Bytes.ensures.counts
