use Rattle.nb_table.proofs.Common.{sym}
use Rattle.std.specs.FinMap as maps
use Rattle.nb_table.proofs.TableReads.{both_held, one_held, none_held}
use Rattle.nb_table.proofs.table.Table.same_at.Goals as goal

pub returns-in-Some-get : goal.returns-in-Some-get
returns-in-Some-get c =
    let k = c.args.key.now in
    rw (← c.self.view_is) (rw (← c.other.view_is)
    (both_held (maps.get c.self.inside.entries k) (maps.get c.other.inside.entries k) _ _ _
    (sym c.in-Some.ensures)
    (sym c.in-Some-get.ensures) c.eq.ensures))

pub returns-in-None-get : goal.returns-in-None-get
returns-in-None-get c =
    let k = c.args.key.now in
    rw (← c.self.view_is) (rw (← c.other.view_is)
    (one_held (maps.get c.self.inside.entries k) (maps.get c.other.inside.entries k) _
    (sym c.in-Some.ensures)
    (sym c.in-None-get.ensures)))

pub returns-in-None : goal.returns-in-None
returns-in-None c =
    let k = c.args.key.now in
    rw (← c.self.view_is) (rw (← c.other.view_is)
    (none_held (maps.get c.self.inside.entries k) (maps.get c.other.inside.entries k) c.contains_key.result
    (sym c.in-None.ensures)
    c.contains_key.ensures))
