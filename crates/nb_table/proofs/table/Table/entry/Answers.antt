use Rattle.nb_table.proofs.Common.{◌≤◌, rules, MAX_LENGTH}
use Rattle.nb_table.proofs.SavedBytes.{all_short}
use Rattle.nb_table.proofs.table.Table.entry.Goals as goal

pub returns-clause-value : goal.returns-clause-value
returns-clause-value c = rw (← c.self.view_is) c.get.ensures

pub returns-clause-short : goal.returns-clause-short
returns-clause-short c e h =
    let most : c.self.inside.longest ≤ MAX_LENGTH = search rules in
    all_short _ c.self.invariant most c.args.key.now e (rw (← c.self.view_is) at h)
