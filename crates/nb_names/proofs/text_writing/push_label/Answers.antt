use Rattle.std.proofs.Common.{◌++◌, ◌∷◌, [], List, ℕ, string_bytes, sym, ◌∙◌, ap, subst, append_assoc, lit<}
use Rattle.std.proofs.lemmas.Result.{on_ok_weaker}
use Rattle.nb_streams.specs.Growth.{IsFrontOf, front_stays}
use Rattle.nb_names.specs.NameText.{items_of}
use Rattle.nb_names.proofs.text_writing.push_label.Goals as goal

pub returns-clause-added : goal.returns-clause-added
returns-clause-added c =
    let before = string_bytes c.args.text.now in
    let items = items_of c.args.label.now in
    let dotted = c.in_ok-push.ensures.bytes ∙ ap (λ (dot : List ℕ). before ++ dot) (c.in_ok-push.ensures.ascii (lit< tt)) in
    on_ok_weaker c.push_items.result (λ written.
    written ∙ ap (λ (front : List ℕ). front ++ items) dotted ∙ append_assoc before (46 ∷ []) items) c.push_items.ensures.added

pub returns-clause-front : goal.returns-clause-front
returns-clause-front c front f =
    c.push_items.ensures.front front (subst (IsFrontOf front) (sym c.in_ok-push.ensures.bytes) (front_stays front _ _ f))
