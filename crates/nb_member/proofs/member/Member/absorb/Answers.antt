use Rattle.nb_member.proofs.Common.{filter, refl, ap, ◌∙◌, err_from_is_err_and, hears}
use Rattle.nb_member.proofs.member.Member.absorb.Goals as goal

pub returns-in_err-datagrams-clause-fault : goal.returns-in_err-datagrams-clause-fault
returns-in_err-datagrams-clause-fault c =
    let p = err_from_is_err_and c.from_residual.result c.from_residual.ensures.1 in
    rw (p.1, p.2) (rw (← c.self.view_is) c.in_err-datagrams.ensures.refused)

pub returns-clause-absorbed : goal.returns-clause-absorbed
returns-clause-absorbed c =
    rw (← c.self.view_is) (record {
      fits = c.in_ok-datagrams.ensures.fits;
      stays = refl;
      merged = c.in_ok-datagrams.ensures.merged;
      heard = c.heard_of.ensures ∙ ap (filter (hears c.self.inside.names)) c.in_ok-datagrams.ensures.handed;
    })
