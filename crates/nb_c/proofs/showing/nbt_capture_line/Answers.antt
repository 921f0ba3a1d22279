use Rattle.nb_calls.proofs.CaptureLemmas.{said_of}
use Rattle.nb_c.proofs.showing.nbt_capture_line.Goals as goal

pub returns : goal.returns
returns c = (_, said_of _ _ c.capture_line.ensures, c.tell_line.ensures)
