use Rattle.std.proofs.Common.{◌∷◌, [], fold, ap, ◌∙◌}
use Rattle.std.proofs.lemmas.Result.{on_ok_weaker}
use Rattle.nb_telling.specs.Telling.{LineEnds, PartEnds}
use Rattle.nb_text.specs.ServiceFields.{named_fields}
use Rattle.nb_text.proofs.records.tell_question.Goals as goal

pub tell_named_fields-requires : goal.tell_named_fields-requires
tell_named_fields-requires g c = (c.requires.0.name, c.requires.1.name)

pub returns-clause-told : goal.returns-clause-told
returns-clause-told g c question sees =
    let told = c.in_ok-tell_named_fields.ensures.told question.name sees.name in
    let fields = rw sees.fields at told in
    on_ok_weaker c.end_part.result
    (λ ended. ended ∙ ap (λ s. fold g.S.Sink.after s (LineEnds ∷ PartEnds ∷ []))
    (fields ∙ ap (λ s. fold g.S.Sink.after s (named_fields question.name question.kind question.class)) c.in_ok-part.ensures.told))
    c.end_part.ensures.told
