use Rattle.std.proofs.Common.{◌++◌, List, ℕ, string_bytes, ◌∙◌, ap}
use Rattle.std.proofs.lemmas.Result.{on_ok_weaker}
use Rattle.nb_names.specs.NameText.{bytes_written, scope_text_of}
use Rattle.nb_names.proofs.text_writing.push_name.Goals as goal

pub returns-clause-added : goal.returns-clause-added
returns-clause-added c =
    let before = string_bytes c.args.text.now in
    let scope = c.as_domain.result.now in
    on_ok_weaker c.push_parts.result (λ written.
    written
    ∙ ap (λ (bytes : List ℕ). before ++ (bytes_written bytes ++ scope_text_of scope)) c.bytes.ensures.value
    ∙ ap (λ labels. before ++ (bytes_written c.args.name.now.bytes ++ scope_text_of labels)) (c.as_domain.ensures.value ∙ c.scope.ensures.value))
    (c.push_parts.ensures.added scope c.spelling.ensures.domain.each c.spelling.ensures.value)
