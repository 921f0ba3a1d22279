use Rattle.std.proofs.lemmas.Result.{err_from_is_err_and}
use Rattle.nb_names.specs.NameFaults.{on_way, not_netbios}
use Rattle.nb_names.proofs.reading.read_name.Goals as goal

pub returns-in_err-domain-clause-fault : goal.returns-in_err-domain-clause-fault
returns-in_err-domain-clause-fault c =
    let p = err_from_is_err_and c.from_residual.result c.from_residual.ensures.1 in
    rw (p.1, p.2) (on_way c.in_err-domain.ensures.fault)

pub returns-in-Err-clause-fault : goal.returns-in-Err-clause-fault
returns-in-Err-clause-fault c = not_netbios _ _ _ c.in_ok-domain.ensures.found c.in-Err.ensures.fault
