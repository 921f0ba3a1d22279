use Rattle.std.proofs.Common.{◌≡◌, Some, refl, ap, ◌∙◌}
use Rattle.std.specs.Option.{option_or}
use Rattle.nb_service.specs.declared.record.Fields.{Fields}
use Rattle.nb_service.specs.Record.{of_domain}
use Rattle.nb_text.proofs.HeardLemmas.{is_ns, server_first, server_stays, told_bytes, told_domain}
use Rattle.nb_text.proofs.brief.gist.Gist.hear.Goals as goal

pub returns-in-Bytes : goal.returns-in-Bytes
returns-in-Bytes c entry before sees is =
    let old = c.args.self.now in
    told_bytes c.args.status before entry old _ c.args.seen.now.fields.kind c.in-Bytes.bytes.now is (ap (λ (f : Fields). f.kind) sees.fields)
    (rw c.in-Bytes.is at (c.rdata.ensures entry sees)) (c.or-self.ensures ∙ ap (λ (f : Fields). option_or old.ttl (Some f.ttl)) sees.fields)
    (c.or-self-in-Bytes.ensures ∙ ap (λ o. option_or old.flags o) c.first_flags.ensures) c.list_view.ensures
    (c.or-self-in-Bytes-2.ensures ∙ ap (λ o. option_or old.unit o) c.first_unit.ensures) refl

pub returns-then-is_none : goal.returns-then-is_none
returns-then-is_none c entry before sees is =
    let old = c.args.self.now in
    let same : of_domain c.in-Domain.server ≡ entry.rdata = rw c.in-Domain.is at (c.rdata.ensures entry sees) in
    told_domain c.args.status before entry old _ c.in-Domain.server is (is_ns _ _ _ _ _ _ same sees.stands.rdata) same
    (c.or-self.ensures ∙ ap (λ (f : Fields). option_or old.ttl (Some f.ttl)) sees.fields) refl refl refl (server_first old.server c.in-Domain.server c.if-is_none.ensures)

pub returns-else-is_none : goal.returns-else-is_none
returns-else-is_none c entry before sees is =
    let old = c.args.self.now in
    let same : of_domain c.in-Domain.server ≡ entry.rdata = rw c.in-Domain.is at (c.rdata.ensures entry sees) in
    told_domain c.args.status before entry old _ c.in-Domain.server is (is_ns _ _ _ _ _ _ same sees.stands.rdata) same
    (c.or-self.ensures ∙ ap (λ (f : Fields). option_or old.ttl (Some f.ttl)) sees.fields) refl refl refl (server_stays old.server c.in-Domain.server c.if-is_none.ensures)
