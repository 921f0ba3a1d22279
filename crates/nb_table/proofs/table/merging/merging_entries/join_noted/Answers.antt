use Rattle.nb_table.proofs.Common.{◌∙◌, ap, on_ok_weaker}
use Rattle.std.specs.FinMap as maps
use Rattle.nb_table.proofs.table.merging.merging_entries.join_noted.Goals as goal

pub returns-clause-joined : goal.returns-clause-joined
returns-clause-joined g c =
    on_ok_weaker c.push_some.result
    (λ _. c.in_ok-put_noted.ensures.put ∙ ap (maps.insert c.args.entries.now c.args.key) c.in_ok-joined.ensures.entry)
    c.push_some.ensures
