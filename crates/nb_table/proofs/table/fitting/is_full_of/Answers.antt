use Rattle.nb_table.proofs.Common.{arith, of_source}
use Rattle.nb_table.proofs.Limits.GroupLemmas.{held_at_most}
use Rattle.nb_table.proofs.table.fitting.is_full_of.Goals as goal

pub returns-then-len-most : goal.returns-then-len-most
returns-then-len-most c =
    let most = held_at_most (of_source c.args.ip) c.args.entries.now in
    (λ h. absurd (cc h), λ h. absurd (omega (arith, most, c.len.ensures.count, c.if-len-most.true, h)))
