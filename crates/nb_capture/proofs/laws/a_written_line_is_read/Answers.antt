use Rattle.nb_capture.proofs.LineWritingLemmas.{comment_read, packet_read, tick_read}
use Rattle.nb_capture.proofs.laws.a_written_line_is_read.Goals as goal

pub returns-clause-packet : goal.returns-clause-packet
returns-clause-packet c = packet_read

pub returns-clause-tick : goal.returns-clause-tick
returns-clause-tick c = tick_read

pub returns-clause-comment : goal.returns-clause-comment
returns-clause-comment c = comment_read
