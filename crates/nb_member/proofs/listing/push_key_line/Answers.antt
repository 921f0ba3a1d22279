use Rattle.nb_member.proofs.Common.{ℕ, List, ◌++◌, ◌∙◌, ap, string_bytes, on_ok_weaker, field_text, appended, key_fields}
use Rattle.nb_member.proofs.listing.push_key_line.Goals as goal

pub returns-clause-added : goal.returns-clause-added
returns-clause-added c =
    let old = string_bytes c.args.text.now in
    on_ok_weaker c.tell_key.result
    (λ told. told ∙ appended field_text old (key_fields c.args.table.now.contents c.args.key) ∙ ap (λ (t : List ℕ). old ++ t) (c.texts_of_listings.ensures c.args.table.now.contents c.args.key))
    c.tell_key.ensures.told
