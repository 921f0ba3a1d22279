use Rattle.std.proofs.Common.{refl, ◌∙◌, string_bytes}
use Rattle.std.proofs.lemmas.Result.{on_ok_weaker}
use Rattle.nb_telling.specs.Texts.{field_text, text_of}
use Rattle.nb_telling.proofs.FoldLemmas.{appended}
use Rattle.nb_text.proofs.fronts.push_front.Goals as goal

pub returns-clause-added : goal.returns-clause-added
returns-clause-added c =
    on_ok_weaker c.tell_front.result
    (λ told. (
      text_of told.fields,
      record { fields = told.fields; tells = told.tells; is = refl },
      told.seen ∙ appended field_text (string_bytes c.args.text.now) told.fields,
    )) c.tell_front.ensures.told
