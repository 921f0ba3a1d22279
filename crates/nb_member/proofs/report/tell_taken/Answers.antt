use Rattle.nb_member.proofs.Common.{on_ok_weaker}
use Rattle.nb_member.proofs.FieldLemmas.{told_delivered}
use Rattle.nb_member.proofs.report.tell_taken.Goals as goal

pub returns-in_ok-tell_of-in-Ok-Delivered-clause-told : goal.returns-in_ok-tell_of-in-Ok-Delivered-clause-told
returns-in_ok-tell_of-in-Ok-Delivered-clause-told g c =
    let d = c.in-Ok-Delivered in
    let first = c.in_ok-tell_of-in-Ok-Delivered.ensures.told in
    rw (d.is, d.field-0-is) (on_ok_weaker c.tell_lent.result
    (λ told. (λ e. absurd (cc e), told_delivered g.S.Sink.after _ d.fragment d.bytes c.key.ensures c.kind.ensures c.source.ensures c.destination.ensures c.as_slice.ensures.value first told))
    c.tell_lent.ensures.told)
