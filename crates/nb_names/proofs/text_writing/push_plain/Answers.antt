use Rattle.std.proofs.Common.{◌++◌, List, ℕ, string_bytes, sym, ◌∙◌, ap, append_assoc}
use Rattle.std.proofs.lemmas.Result.{on_ok_weaker}
use Rattle.nb_names.specs.NameText.{domain_written, items_of, scope_text_of}
use Rattle.nb_names.specs.Code.Kept.{labels_of}
use Rattle.nb_names.proofs.text_writing.push_plain.Goals as goal

pub returns-in_ok-push_items-in-Some-clause-added : goal.returns-in_ok-push_items-in-Some-clause-added
returns-in_ok-push_items-in-Some-clause-added c =
    let label = c.in-Some.label.now in
    let labels = labels_of c.in-Some.rest.now in
    let before = string_bytes c.args.text.now in
    let split = c.in-Some.ensures.split in
    on_ok_weaker c.push_spelled.result (λ written.
    written
    ∙ ap (λ (front : List ℕ). front ++ scope_text_of labels) c.in_ok-push_items-in-Some.ensures.added
    ∙ append_assoc before (items_of label) (scope_text_of labels)
    ∙ ap (λ ls. before ++ domain_written ls) (sym split.0)) (c.push_spelled.ensures.added labels split.1.domain.each split.1.exact)
