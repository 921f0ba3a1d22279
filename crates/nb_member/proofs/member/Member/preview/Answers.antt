use Rattle.nb_member.proofs.Common.{filter, ap, subst, ◌∙◌, err_from_is_err_and, join, TableValue, hears}
use Rattle.nb_table.specs.Merging.{Fits, IsRefused, newly_handed}
use Rattle.nb_member.proofs.member.Member.preview.Goals as goal

pub returns-in_err-datagrams-clause-fault : goal.returns-in_err-datagrams-clause-fault
returns-in_err-datagrams-clause-fault c =
    let p = err_from_is_err_and c.from_residual.result c.from_residual.ensures.1 in
    rw (p.1, p.2) (rw (← c.self.view_is) (subst (λ (t : TableValue). IsRefused t.limits t.contents c.args.other.now.contents c.in_err-datagrams.field-0.0) c.table.ensures
    c.in_err-datagrams.ensures.fault))

pub returns-clause-previewed : goal.returns-clause-previewed
returns-clause-previewed c =
    rw (← c.self.view_is) (record {
      fits = subst (λ (t : TableValue). Fits t.limits t.contents c.args.other.now.contents) c.table.ensures c.in_ok-datagrams.ensures.fits;
      heard = c.heard_of.ensures ∙ ap (filter (hears c.self.inside.names)) (c.in_ok-datagrams.ensures.handed
          ∙ ap (λ (t : TableValue). newly_handed t.contents (join t.contents c.args.other.now.contents)) c.table.ensures);
    })
