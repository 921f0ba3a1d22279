use Rattle.std.proofs.Common.{List, ℕ, ap, ◌∙◌}
use Rattle.std.proofs.lemmas.Result.{on_ok_weaker}
use Rattle.nb_names.specs.NameText.{labels_written}
use Rattle.nb_telling.specs.Telling.{Text, tag_of}
use Rattle.nb_text.proofs.records.tell_name.Goals as goal

pub returns-in-Some-clause-told : goal.returns-in-Some-clause-told
returns-in-Some-clause-told g c labels is =
    on_ok_weaker c.shown.result
    (λ told. told ∙ ap (λ (ls : List (List ℕ)). g.S.Sink.after (g.S.Sink.seen c.args.sink.now) (Text (tag_of c.args.key) (labels_written ls))) (c.in-Some.ensures labels is))
    c.shown.ensures.told

pub returns-in-None-clause-told : goal.returns-in-None-clause-told
returns-in-None-clause-told g c labels is =
    on_ok_weaker c.shown-in-None.result
    (λ told. told ∙ ap (λ (ls : List (List ℕ)). g.S.Sink.after (g.S.Sink.seen c.args.sink.now) (Text (tag_of c.args.key) (labels_written ls))) (c.domain_at.ensures labels is))
    c.shown-in-None.ensures.told
