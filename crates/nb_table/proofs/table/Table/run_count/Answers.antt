use Rattle.nb_table.proofs.Common.{sym, ◌∙◌, ap, option_and_then}
use Rattle.nb_entries.specs.Runs.{entry_run_count}
use Rattle.nb_table.proofs.table.Table.run_count.Goals as goal

pub run_count-requires : goal.run_count-requires
run_count-requires c = c.in-Some.ensures.short c.in-Some.entry.now (sym c.in-Some.ensures.value)

pub returns-in-Some : goal.returns-in-Some
returns-in-Some c = c.run_count.ensures ∙ sym (ap (option_and_then entry_run_count) (sym c.in-Some.ensures.value))

pub returns-in-None : goal.returns-in-None
returns-in-None c = sym (ap (option_and_then entry_run_count) (sym c.in-None.ensures.value))
