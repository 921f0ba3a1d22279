use Rattle.std.proofs.Common.{◌++◌, fold, ap, ◌∙◌}
use Rattle.std.proofs.lemmas.Result.{on_ok_weaker}
use Rattle.nb_telling.proofs.FoldLemmas.{and_then}
use Rattle.nb_text.specs.FrontFields.{standing_name}
use Rattle.nb_text.specs.Tags.{tag_named}
use Rattle.nb_text.proofs.fronts.tell_fragment.Goals as goal

pub returns-clause-told : goal.returns-clause-told
returns-clause-told g c =
    let front = c.in-Some.front in
    rw c.in-Some.is
    (on_ok_weaker c.tell_standing_name-2.result
    (λ told. and_then g.S.Sink.after _ (standing_name (tag_named "source") front.source) (standing_name (tag_named "destination") front.destination)
    c.in_ok-tell_standing_name.ensures.told told ∙ ap (λ s. fold g.S.Sink.after s (standing_name (tag_named "source") front.source ++ standing_name (tag_named "destination") front.destination)) c.in_ok-tell_number.ensures.told)
    c.tell_standing_name-2.ensures.told)
