use Rattle.std.proofs.Common.{sym, ◌∙◌}
use Rattle.nb_text.proofs.WalkLemmas.{row_more}
use Rattle.nb_text.proofs.views.tell_each.Goals as goal

pub loop-place-preserved : goal.loop-place-preserved
loop-place-preserved g c = (
  row_more g.S.Sink.after g.P.Part.ViewPart.fields (g.P.ViewParts.parts c.args.parts.now) c.loop-place.place c.unwrap-part.result _ _ _
      (sym c.part_at.ensures ∙ c.unwrap-part.ensures) c.loop-place.invariant.0 c.in_ok-tell.ensures.told,
  λ front f. c.in_ok-tell.ensures.front front (c.loop-place.invariant.1 front f),
)
