use Rattle.std.proofs.Common.{◌++◌, ◌∷◌, [], map, take, ap, sym, ◌∙◌}
use Rattle.nb_text.specs.declared.brief.gist.Listed.{Listed}
use Rattle.nb_text.specs.ServiceSaid.{few}
use Rattle.nb_text.proofs.HeardLemmas.{listed_more}
use Rattle.nb_text.proofs.views.list_each.Goals as goal

pub loop-place-preserved : goal.loop-place-preserved
loop-place-preserved g c items is =
    let listed = g.P.Part.ViewPart.listed in
    let parts = g.P.ViewParts.parts c.in-Some.parts in
    c.list.ensures _ (c.loop-place.invariant items is)
    ∙ ap (λ (item : Listed). few ((items ++ map listed (take c.loop-place.place parts)) ++ item ∷ [])) c.item.ensures
    ∙ ap few (listed_more items listed parts c.loop-place.place c.unwrap.result (sym c.part_at.ensures ∙ c.unwrap.ensures))
