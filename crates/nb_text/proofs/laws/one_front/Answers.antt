use Rattle.nb_text.proofs.OneFront.{one_told_front}
use Rattle.nb_text.proofs.laws.one_front.Goals as goal

pub returns : goal.returns
returns c payload = one_told_front payload (c.one_front.ensures.whole payload)
