use Rattle.std.proofs.Common.{◌≡◌, ◌≢◌, ℕ, ◌+◌, ◌≤◌, List, length, take, drop, refl, sym, subst, arith, length-drop}
use Rattle.std.proofs.lemmas.List.{length-take-le}
use Rattle.std.proofs.lemmas.Result.{err_from_is_err_and}
use Rattle.nb_service.specs.declared.kinds.TheConstants.{NS}
use Rattle.nb_service.specs.Packet.{RdataAt, bytes_there, domain_there}
use Rattle.nb_service.specs.Record.{ResourceData, of_bytes}
use Rattle.nb_service.specs.ServiceFaults.{domain_name, domain_end}
use Rattle.nb_service.proofs.seeing.check_rdata.Goals as goal

-- bytes stand wherever there are as many
bytes_stand : (b : List ℕ) (at size kind : ℕ) → kind ≢ NS → at + size ≤ length b → (d : ResourceData) × RdataAt b at size kind d
bytes_stand b at size kind other fits =
    let bytes : List ℕ = take size (drop at b) in
    let long : length bytes ≡ size = length-take-le size (drop at b) (omega (arith, length-drop at b)) in
    (of_bytes bytes, bytes_there bytes other long (subst (λ (n : ℕ). take n (drop at b) ≡ bytes) (sym long) refl))

pub returns-then-kind-ne-NS-clause-found : goal.returns-then-kind-ne-NS-clause-found
returns-then-kind-ne-NS-clause-found c = bytes_stand c.args.names.now c.args.begin c.args.size c.args.kind c.if-kind-ne-NS.true c.requires.there

pub returns-in_err-name-clause-fault : goal.returns-in_err-name-clause-fault
returns-in_err-name-clause-fault c =
    let p = err_from_is_err_and c.from_residual.result c.from_residual.ensures.1 in rw (p.1, p.2) (c.if-kind-ne-NS.false, domain_name _ c.in_err-name.ensures.fault)

pub returns-then-name-begin-clause-fault : goal.returns-then-name-begin-clause-fault
returns-then-name-begin-clause-fault c =
    let named = c.in_ok-name.ensures.found in (c.if-kind-ne-NS.false, domain_end named.0 _ named.1.name c.if-name-begin.true)

pub returns-clause-found : goal.returns-clause-found
returns-clause-found c =
    let named = c.in_ok-name.ensures.found in (_, domain_there named.0 c.if-kind-ne-NS.false (rw (← c.if-name-begin.false) named.1.name))
