use Rattle.std.proofs.Common.{◌∙◌, ap, sym, ◌&&◌}
use Rattle.std.specs.Cmp.{both_ways}
use Rattle.nb_datagram.specs.Fragment.{core_of}
use Rattle.nb_table.specs.Conflict.{conflicts}
use Rattle.nb_table.specs.Shared.ConflictLemmas.{conflicts_decides}
use Rattle.nb_examples.proofs.plain.conflicting.conflict_with.Goals as goal

pub returns-then-has_key : goal.returns-then-has_key
returns-then-has_key c =
    let f = core_of c.args.one.now in let g = core_of c.args.other.now in
    both_ways c.conflict.result (conflicts f g)
    (λ h. (conflicts_decides f g).1 (c.conflict.ensures.0 h)) (λ h. c.conflict.ensures.1 ((conflicts_decides f g).0 h))
    ∙ ap (λ b. b && conflicts f g) (sym (sym c.has_key.ensures ∙ c.if-has_key.true))
