use Rattle.nb_table.proofs.Common.{sym, ◌∙◌, ap, option_and_then}
use Rattle.nb_entries.specs.Whole.{entry_outline}
use Rattle.nb_table.proofs.table.Table.outline.Goals as goal

pub outline-requires : goal.outline-requires
outline-requires c = c.in-Some.ensures.short c.in-Some.entry.now (sym c.in-Some.ensures.value)

pub returns-in-Some : goal.returns-in-Some
returns-in-Some c = c.outline.ensures ∙ sym (ap (option_and_then entry_outline) (sym c.in-Some.ensures.value))

pub returns-in-None : goal.returns-in-None
returns-in-None c = sym (ap (option_and_then entry_outline) (sym c.in-None.ensures.value))
