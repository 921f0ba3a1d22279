use Rattle.nb_member.proofs.Common.{sym, ap, ◌∙◌, err_from_is_err_and, TableValue}
use Rattle.std.specs.FinMap as maps
use Rattle.nb_member.proofs.MemberLemmas.Timers.{one_set_merged}
use Rattle.nb_member.proofs.timed_table.TimedTable.merge.Goals as goal

pub returns-in_err-fits-clause-refused : goal.returns-in_err-fits-clause-refused
returns-in_err-fits-clause-refused c =
    let p = err_from_is_err_and c.from_residual.result c.from_residual.ensures.1 in
    rw (p.1, p.2) (rw (← c.self.view_is) c.in_err-fits.ensures.fault)

pub returns-in_err-starts-clause-refused : goal.returns-in_err-starts-clause-refused
returns-in_err-starts-clause-refused c =
    let p = err_from_is_err_and c.from_residual-in_err-starts.result c.from_residual-in_err-starts.ensures.1 in
    rw (p.1, p.2) (rw (← c.self.view_is) c.in_ok-fits.ensures.fits)

pub returns-in_err-datagrams-clause-refused : goal.returns-in_err-datagrams-clause-refused
returns-in_err-datagrams-clause-refused c =
    let p = err_from_is_err_and c.from_residual-in_err-datagrams.result c.from_residual-in_err-datagrams.ensures.1 in
    rw (p.1, p.2) (rw (← c.self.view_is) c.in_err-datagrams.ensures.fault)

pub invariant_of-self-2 : goal.invariant_of-self-2
invariant_of-self-2 c =
    λ k.
    one_set_merged c.self.inside.table.contents c.args.other.now.contents c.self.inside.starts c.in_ok-starts.starts c.args.moment c.self.invariant c.in_ok-starts.ensures k
    ∙ sym (ap (λ (t : TableValue). maps.contains_key t.contents k) c.in_ok-datagrams.ensures.joined)

pub returns-clause-merged : goal.returns-clause-merged
returns-clause-merged c =
    rw (← c.self.view_is) (record { table_is = c.in_ok-datagrams.ensures.joined; moments_are = c.in_ok-starts.ensures })
