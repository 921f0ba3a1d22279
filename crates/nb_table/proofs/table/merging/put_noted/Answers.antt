use Rattle.nb_table.proofs.Common.{◌∙◌, ◌++◌, ◌∷◌, [], ap, key_cmp_total, key_cmp_exact}
use Rattle.nb_table.proofs.Joins.{noted}
use Rattle.nb_table.proofs.table.merging.put_noted.Goals as goal

pub returns-clause-noted : goal.returns-clause-noted
returns-clause-noted c =
    let pushed = rw c.unwrap.ensures at c.push.ensures.items in
    noted key_cmp_total key_cmp_exact c.args.entries.now c.insert.new.self c.args.key c.args.entry c.in_ok-before.before c.args.changes.now.items c.push.new.self.items
    c.in_ok-before.ensures.inserted c.in_ok-before.ensures.before
    (pushed ∙ ap (λ es. es ++ (c.args.key, c.in_ok-before.before) ∷ []) c.reserve.ensures.items)
