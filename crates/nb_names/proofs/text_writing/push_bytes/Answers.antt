use Rattle.std.proofs.Common.{◌++◌, ◌∷◌, [], List, ℕ, take, slice_index, string_bytes, ◌∙◌, ap, append_assoc}
use Rattle.std.proofs.lemmas.Result.{on_ok_weaker}
use Rattle.nb_streams.specs.Hexadecimal.{digits_of}
use Rattle.nb_names.specs.NameText.{items_of, trimmed}
use Rattle.nb_names.proofs.text_writing.push_bytes.Goals as goal

pub returns-clause-written : goal.returns-clause-written
returns-clause-written c =
    let before = string_bytes c.args.text.now in
    let items = items_of (trimmed (take 15 c.args.bytes.now)) in
    let digits : List ℕ = 60 ∷ digits_of (slice_index c.args.bytes.now 15) in
    let end : List ℕ = 62 ∷ [] in
    on_ok_weaker c.push_last.result (λ written.
    written
    ∙ ap (λ (front : List ℕ). front ++ digits ++ end) (c.in_ok-push_items.ensures.added ∙ ap (λ (kept : List ℕ). before ++ items_of kept) c.without_last_spaces.ensures)
    ∙ ap (λ (text : List ℕ). text ++ end) (append_assoc before items digits)
    ∙ append_assoc before (items ++ digits) end) c.push_last.ensures.written

pub returns-clause-front : goal.returns-clause-front
returns-clause-front c front f = c.push_last.ensures.front front (c.in_ok-push_items.ensures.front front f)
