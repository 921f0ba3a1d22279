use Rattle.std.proofs.Common.{◌++◌, List, ℕ, string_bytes, ◌∙◌, ap, append_assoc}
use Rattle.std.proofs.lemmas.Result.{on_ok_weaker}
use Rattle.nb_names.specs.NameText.{bytes_written, scope_text_of}
use Rattle.nb_names.proofs.text_writing.push_parts.Goals as goal

pub returns-clause-added : goal.returns-clause-added
returns-clause-added c labels a e =
    on_ok_weaker c.push_spelled.result (λ written.
    written
    ∙ ap (λ (front : List ℕ). front ++ scope_text_of labels) c.in_ok-push_bytes.ensures.written
    ∙ append_assoc (string_bytes c.args.text.now) (bytes_written c.args.bytes.now) (scope_text_of labels)) (c.push_spelled.ensures.added labels a e)

pub returns-clause-front : goal.returns-clause-front
returns-clause-front c front f = c.push_spelled.ensures.front front (c.in_ok-push_bytes.ensures.front front f)
