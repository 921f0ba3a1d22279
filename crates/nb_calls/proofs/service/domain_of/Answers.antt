use Rattle.nb_calls.proofs.Common.{◌≡◌, ℕ, length, subst, arith, Refused, NameAt}
use Rattle.nb_calls.specs.Names.{whole, no_name, bytes_trail}
use Rattle.nb_calls.proofs.service.domain_of.Goals as goal

pub returns-then-next-bytes : goal.returns-then-next-bytes
returns-then-next-bytes c = bytes_trail _ _ c.in-Ok.ensures.found c.if-next-bytes.true

pub returns-else-next-bytes : goal.returns-else-next-bytes
returns-else-next-bytes c =
    let last : c.in-Ok.next ≡ length c.args.bytes.now = omega (arith, c.in-Ok.ensures.within, c.if-next-bytes.false) in
    whole _ (subst (λ (n : ℕ). NameAt c.args.bytes.now Refused 0 c.in-Ok.domain n) last c.in-Ok.ensures.found)

pub returns-in-Err : goal.returns-in-Err
returns-in-Err c = rw c.name_refusal.ensures (no_name _ c.in-Err.ensures.fault)
