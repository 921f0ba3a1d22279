use Rattle.nb_frames.proofs.AnswerLemmas.{has_contents}
use Rattle.nb_frames.proofs.reading.contents_of.Goals as goal

pub returns : goal.returns
returns c =
    has_contents _ _ _ _ _ c.of-link.ensures c.sender.ensures c.receiver.ensures c.layer-layer.ensures.vlans c.layer-layer.ensures.network c.carried_by.ensures
