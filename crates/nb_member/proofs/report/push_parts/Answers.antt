use Rattle.nb_member.proofs.Common.{ℕ, List, ◌++◌, ◌∙◌, ap, string_bytes, on_ok_weaker, field_text, appended, parts_fields}
use Rattle.nb_member.proofs.report.push_parts.Goals as goal

pub returns-clause-added : goal.returns-clause-added
returns-clause-added c =
    let old = string_bytes c.args.text.now in
    on_ok_weaker c.tell_parts.result
    (λ told. told ∙ appended field_text old (parts_fields c.args.datagram.now) ∙ ap (λ (t : List ℕ). old ++ t) (c.texts_of_reports.ensures.parts c.args.datagram.now))
    c.tell_parts.ensures.told
