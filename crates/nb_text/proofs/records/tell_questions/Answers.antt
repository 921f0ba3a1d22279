use Rattle.std.proofs.Common.{codes}
use Rattle.std.specs.List.{flat_map}
use Rattle.nb_text.specs.ServiceFields.{question_fields}
use Rattle.nb_text.proofs.WalkLemmas.{list_told}
use Rattle.nb_text.proofs.records.tell_questions.Goals as goal

pub returns-clause-told : goal.returns-clause-told
returns-clause-told g c questions next row =
    let told = c.in_ok-next.ensures.told questions next row in (
      told.0,
      list_told g.S.Sink.after (codes "questions") (flat_map question_fields questions) _ _ _ _ c.in_ok-begins.ensures.told told.1 c.in_ok-ends.ensures.told,
    )
