use Rattle.nb_table.proofs.Common.{sym, ◌∙◌, ap}
use Rattle.nb_entries.specs.Runs.{ranges_where}
use Rattle.nb_table.proofs.table.Table.ranges.Goals as goal

pub ranges-requires : goal.ranges-requires
ranges-requires c = c.in-Some.ensures.short c.in-Some.entry.now (sym c.in-Some.ensures.value)

pub returns-in-Some : goal.returns-in-Some
returns-in-Some c = c.ranges-in-Some.ensures ∙ sym (ap ranges_where (sym c.in-Some.ensures.value))

pub returns-in-None : goal.returns-in-None
returns-in-None c = c.none.ensures ∙ sym (ap ranges_where (sym c.in-None.ensures.value))
