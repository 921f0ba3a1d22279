use Rattle.nb_frames.proofs.LayoutLemmas.{laid_out_read}
use Rattle.nb_frames.proofs.laws.layout_is_read.Goals as goal

pub returns : goal.returns
returns c = laid_out_read
