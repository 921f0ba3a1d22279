use Rattle.nb_streams.proofs.PushingLemmas.{part_more}
use Rattle.nb_streams.proofs.parts_writing.push_digits.Goals as goal

pub parts-preserved : goal.parts-preserved
parts-preserved c = (
  part_more _ _ _ c.split_at.result.0.now c.split_at.result.1.now c.parts.rest.now 64 c.parts.invariant.0
      c.split_at.ensures.front c.split_at.ensures.back c.in_ok-push_part.ensures.added,
  λ front f. c.in_ok-push_part.ensures.front front (c.parts.invariant.1 front f),
)
