use Rattle.std.proofs.Common.{◌++◌, List, ℕ, string_bytes, ◌∙◌, ap}
use Rattle.std.proofs.lemmas.Result.{on_ok_weaker}
use Rattle.nb_names.specs.NameText.{bytes_written, scope_text_of}
use Rattle.nb_names.proofs.lent_name.push_lent_name.Goals as goal

pub returns-clause-added : goal.returns-clause-added
returns-clause-added c =
    let name = c.args.name.now in
    on_ok_weaker c.push_parts.result (λ written.
    written ∙ ap (λ (bytes : List ℕ). string_bytes c.args.text.now ++ (bytes_written bytes ++ scope_text_of name.scope)) c.bytes.ensures.value)
    (c.push_parts.ensures.added name.scope c.bytes.ensures.name.0.scope.domain.each c.scope_spelling.ensures.value)
