use Rattle.nb_member.proofs.Common.{ℕ, List, Option, ◌∙◌, ap, sym, fold, on_ok_weaker, ErrorPacket, Digits, error_fields}
use Rattle.nb_member.specs.Tags.{error_tag}
use Rattle.nb_member.proofs.report.tell_error.Goals as goal

pub returns-clause-told : goal.returns-clause-told
returns-clause-told g c =
    let old = g.S.Sink.seen c.args.sink.now in
    let bytes = c.as_slice.ensures ∙ c.in_ok-bytes.ensures.written in
    on_ok_weaker c.digits.result
    (λ told. told ∙ ap (λ (b : List ℕ). g.S.Sink.after old (Digits error_tag b)) bytes
    ∙ ap (λ (e : Option ErrorPacket). fold g.S.Sink.after old (error_fields e)) (sym c.in-Some.is))
    c.digits.ensures.told
