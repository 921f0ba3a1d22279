use Rattle.std.proofs.Common.{◌≡◌, ◌++◌, ◌∷◌, List, ℕ, string_bytes, sym, ◌∙◌, ap}
use Rattle.std.proofs.lemmas.Result.{on_ok_weaker}
use Rattle.nb_names.specs.Code.Kept.{labels_of}
use Rattle.nb_names.specs.NameText.{bytes_written, domain_written, scope_text_of, labels_written}
use Rattle.nb_names.proofs.PushingLemmas.{labels_written-letters, labels_written-others}
use Rattle.nb_names.proofs.text_writing.push_domain.Goals as goal

pub returns-in-Ok-clause-added : goal.returns-in-Ok-clause-added
returns-in-Ok-clause-added c =
    let bytes = c.in-Ok.bytes in
    let labels = labels_of c.in-Some.scope.now in
    let split = c.in-Some.ensures.split in
    let whole : labels_written c.args.domain.now ≡ bytes_written bytes ++ scope_text_of labels =
    ap labels_written (split.0 ∙ ap (λ (first : List ℕ). first ∷ labels) c.in-Ok.ensures.found)
    ∙ labels_written-letters bytes labels c.push_parts.ensures.sixteen c.push_parts.ensures.bytes in
    on_ok_weaker c.push_parts.result (λ written.
    written ∙ ap (λ (text : List ℕ). string_bytes c.args.text.now ++ text) (sym whole)) (c.push_parts.ensures.added labels split.1.domain.each split.1.exact)

pub returns-in-Err-clause-added : goal.returns-in-Err-clause-added
returns-in-Err-clause-added c =
    let before = string_bytes c.args.text.now in
    let labels = labels_of c.in-Some.scope.now in
    let split = c.in-Some.ensures.split.0 in
    let whole = ap labels_written split ∙ labels_written-others c.in-Some.first.now labels _ c.in-Err.ensures.non_letter ∙ ap domain_written (sym split) in
    on_ok_weaker c.push_plain-in-Err.result (λ written. written ∙ ap (λ (text : List ℕ). before ++ text) (sym whole)) c.push_plain-in-Err.ensures.added
